-- A text has one reading: its pieces up to the end, or up to the first fault.
use Rattle.std.proofs.Common.{◌≡◌, ℕ, ◌+◌, Bool, true, false, cond, List, [], ◌∷◌, ◌++◌, refl, sym, ap, subst, ◌∙◌, ◌⊎◌, inl, inr, append_assoc, arith}
use Rattle.std.specs.Prelude.{◌&&◌, ◌||◌, ◌==◌, IsTrue}
use Rattle.std.proofs.lemmas.Bool.{false≢true, eqb-true}
use Rattle.gt_text.specs.WhiteSpace.{is_white_space_of}
use Rattle.gt_lex.specs.declared.starts.Start.{Start}
use Rattle.gt_lex.specs.declared.starts.Start.TheVariants as start
use Rattle.gt_lex.specs.declared.tokens.Kind.TheVariants.{Quoted, CharLit}
use Rattle.gt_lex.specs.Characters.{double_quote, hash, single_quote, star, slash, first_is, EndsLine, byte_len}
use Rattle.gt_lex.specs.Starts.{text_start, directive_start, is_bare_prefix, is_bad_number}
use Rattle.gt_lex.specs.Extents.{Reaches, IsOpenComment}
use Rattle.gt_lex.specs.Parts.{Part, Space, Block, Line, Continuation, Item, Piece, Plain, Directive, spelling, spellings, piece_spelling, text_of}
use Rattle.gt_lex.specs.Texts.{start_of, AreInDirective, Stands, ArePieces, fresh_after, fresh_past, HasFault, open_comment, open_comment_in_directive, open_string, open_character, bad_number}
use Rattle.gt_lex.proofs.Bools.{and_cases}
use Rattle.gt_lex.proofs.Opening.{ends_directive}
use Rattle.gt_lex.proofs.Again.{one_part, no_open_comment, no_open_quoted, no_open_character}
use Rattle.gt_lex.proofs.Scanning.{piece_positive}

-- ---- what begins where a fault stands

and_false : (b : Bool) → (b && false) ≡ false
and_false true = refl
and_false false = refl

slash_no_space : is_white_space_of slash ≡ false
unfolding is_white_space_of
slash_no_space = refl

comment_begins : (fresh : Bool) (inside : List ℕ) → text_start fresh (slash ∷ star ∷ inside) ≡ start.Block
comment_begins fresh inside = rw (and_false fresh, slash_no_space) refl

comment_begins_in_directive : (inside : List ℕ) → directive_start (slash ∷ star ∷ inside) ≡ start.Block
comment_begins_in_directive inside = rw slash_no_space refl

quoted_begins : (fresh : Bool) (cs : List ℕ) → text_start fresh (double_quote ∷ cs) ≡ start.Token Quoted
quoted_begins fresh [] = rw (and_false fresh) refl
quoted_begins fresh (c ∷ cs) = rw (and_false fresh) refl

character_begins : (fresh : Bool) (cs : List ℕ) → text_start fresh (single_quote ∷ cs) ≡ start.Token CharLit
character_begins fresh [] = rw (and_false fresh) refl
character_begins fresh (c ∷ cs) = rw (and_false fresh) refl

-- a bad number begins with a 0
zero_first : (cs : List ℕ) → is_bad_number cs ≡ true → (rest : List ℕ) × (cs ≡ 48 ∷ rest)
zero_first [] bad = absurd (false≢true bad)
zero_first (z ∷ cs) bad = (cs, ap (λ y. y ∷ cs) (eqb-true z 48 (and_cases (z == 48) (is_bare_prefix cs) bad).0))

zero_begins : (cs : List ℕ) → is_bad_number cs ≡ true → first_is hash cs ≡ false
zero_begins cs bad = ap (first_is hash) (zero_first cs bad).1

bad_number_begins : (fresh : Bool) (cs : List ℕ) → is_bad_number cs ≡ true → text_start fresh cs ≡ start.BadNumber
bad_number_begins fresh cs bad = rw (zero_begins cs bad, and_false fresh, bad) refl

directive_begins : (fresh : Bool) (cs : List ℕ) → IsTrue fresh → text_start fresh (hash ∷ cs) ≡ start.Directive
directive_begins fresh cs is_fresh = rw is_fresh refl

-- a part begins with something, and with no directive and no bad number
abbrev PartBegins : Start → Type 0
PartBegins start.End = ⊥
PartBegins start.Space = Unit {0}
PartBegins start.Block = Unit {0}
PartBegins start.Line = Unit {0}
PartBegins start.Continuation = Unit {0}
PartBegins start.Directive = ⊥
PartBegins start.BadNumber = ⊥
PartBegins (start.Token kind) = Unit {0}

part_begins : (p : Part) → PartBegins (start_of p)
part_begins (Space c) = tt
part_begins (Block inside) = tt
part_begins (Line inside) = tt
part_begins (Continuation end) = tt
part_begins (Item kind cs) = tt

part_no_end : (p : Part) → start_of p ≡ start.End → ⊥
part_no_end p e = subst PartBegins e (part_begins p)

part_no_directive : (p : Part) → start_of p ≡ start.Directive → ⊥
part_no_directive p e = subst PartBegins e (part_begins p)

part_no_bad_number : (p : Part) → start_of p ≡ start.BadNumber → ⊥
part_no_bad_number p e = subst PartBegins e (part_begins p)

-- ---- a directive

-- where the parts of a directive stop: at the line's end, or before a comment that does not end
abbrev StopsDirective : List ℕ → Type 0
StopsDirective cs = EndsLine cs ⊎ IsOpenComment cs

-- no part stands there
no_part_at_stop : (cs : List ℕ) (p : Part) (rest : List ℕ) → StopsDirective cs → cs ≡ spelling p ++ rest → directive_start (spelling p ++ rest) ≡ start_of p → Reaches p rest → ⊥
no_part_at_stop cs p rest (inl ends) e begins reaches =
    part_no_end p (sym begins ∙ ap directive_start (sym e) ∙ ends_directive cs ends)
no_part_at_stop cs p rest (inr is) e begins reaches =
    no_open_comment p cs rest (sym begins ∙ ap directive_start (sym e ∙ is.1) ∙ comment_begins_in_directive is.0) reaches e is

cons_same : (p q : Part) (ps qs : List Part) → p ≡ q → ps ≡ qs → p ∷ ps ≡ q ∷ qs
cons_same p q ps qs e f = cc

one_directive : (ps qs : List Part) (r s : List ℕ) → AreInDirective ps r → AreInDirective qs s → StopsDirective r → StopsDirective s → spellings ps ++ r ≡ spellings qs ++ s → (ps ≡ qs) × (r ≡ s)
one_directive [] [] r s each_p each_q stops_r stops_s e = (refl, e)
one_directive [] (q ∷ qs) r s each_p each_q stops_r stops_s e =
    absurd (no_part_at_stop r q (spellings qs ++ s) stops_r (e ∙ append_assoc (spelling q) (spellings qs) s) each_q.0 each_q.1)
one_directive (p ∷ ps) [] r s each_p each_q stops_r stops_s e =
    absurd (no_part_at_stop s p (spellings ps ++ r) stops_s (sym e ∙ append_assoc (spelling p) (spellings ps) r) each_p.0 each_p.1)
one_directive (p ∷ ps) (q ∷ qs) r s each_p each_q stops_r stops_s e =
    let whole : spelling p ++ (spellings ps ++ r) ≡ spelling q ++ (spellings qs ++ s) = sym (append_assoc (spelling p) (spellings ps) r) ∙ e ∙ append_assoc (spelling q) (spellings qs) s in
    let begins : start_of p ≡ start_of q = sym each_p.0 ∙ ap directive_start whole ∙ each_q.0 in
    let one = one_part p q (spellings ps ++ r) (spellings qs ++ s) begins each_p.1 each_q.1 whole in
    let others = one_directive ps qs r s each_p.2 each_q.2 stops_r stops_s one.1 in
    (cons_same p q ps qs one.0 others.0, others.1)

-- ---- the piece at the front

slash_no_end : (cs : List ℕ) → EndsLine (slash ∷ star ∷ cs) → ⊥
slash_no_end cs e = absurd (omega arith)

no_end_at_comment : (cs : List ℕ) → EndsLine cs → IsOpenComment cs → ⊥
no_end_at_comment cs ends is = slash_no_end is.0 (subst EndsLine is.1 ends)

one_piece : (fresh : Bool) (p q : Piece) (r s : List ℕ) → Stands fresh p r → Stands fresh q s → piece_spelling p ++ r ≡ piece_spelling q ++ s → (p ≡ q) × (r ≡ s)
one_piece fresh (Plain p) (Plain q) r s stands_p stands_q e =
    let one = one_part p q r s (sym stands_p.0 ∙ ap (text_start fresh) e ∙ stands_q.0) stands_p.1 stands_q.1 e in
    (ap Plain one.0, one.1)
one_piece fresh (Plain p) (Directive qs) r s stands_p stands_q e =
    absurd (part_no_directive p (sym stands_p.0 ∙ ap (text_start fresh) e ∙ directive_begins fresh (spellings qs ++ s) stands_q.0))
one_piece fresh (Directive ps) (Plain q) r s stands_p stands_q e =
    absurd (part_no_directive q (sym stands_q.0 ∙ ap (text_start fresh) (sym e) ∙ directive_begins fresh (spellings ps ++ r) stands_p.0))
one_piece fresh (Directive ps) (Directive qs) r s stands_p stands_q e =
    let following : spellings ps ++ r ≡ spellings qs ++ s = cc in
    let one = one_directive ps qs r s stands_p.1 stands_q.1 (inl stands_p.2) (inl stands_q.2) following in
    (ap Directive one.0, one.1)

-- ---- where the pieces stop

-- the end of the text, or a fault
pub data Stops (fresh : Bool) (cs : List ℕ) : Type 0 where
  at_end : cs ≡ [] → Stops fresh cs
  at_fault : (number offset : ℕ) → HasFault fresh cs number offset → Stops fresh cs

no_piece_at_fault : (fresh : Bool) (cs : List ℕ) (number offset : ℕ) (p : Piece) (rest : List ℕ) → HasFault fresh cs number offset → cs ≡ piece_spelling p ++ rest → Stands fresh p rest → ⊥
no_piece_at_fault fresh cs _ _ (Plain p) rest (open_comment is) e stands =
    no_open_comment p cs rest (sym stands.0 ∙ ap (text_start fresh) (sym e ∙ is.1) ∙ comment_begins fresh is.0) stands.1 e is
no_piece_at_fault fresh cs _ _ (Directive ps) rest (open_comment is) e stands =
    false≢true (sym (ap (first_is slash) (sym is.1 ∙ e)))
no_piece_at_fault fresh cs _ _ (Plain p) rest (open_comment_in_directive qs s is_fresh whole each is) e stands =
    part_no_directive p (sym stands.0 ∙ ap (text_start fresh) (sym e ∙ whole) ∙ directive_begins fresh (spellings qs ++ s) is_fresh)
no_piece_at_fault fresh cs _ _ (Directive ps) rest (open_comment_in_directive qs s is_fresh whole each is) e stands =
    let heads : hash ∷ (spellings qs ++ s) ≡ hash ∷ (spellings ps ++ rest) = sym whole ∙ e in
    let following : spellings qs ++ s ≡ spellings ps ++ rest = cc in
    let one = one_directive qs ps s rest each stands.1 (inr is) (inl stands.2) following in
    no_end_at_comment s (subst EndsLine (sym one.1) stands.2) is
no_piece_at_fault fresh cs _ _ (Plain p) rest (open_string is) e stands =
    no_open_quoted p cs rest (sym stands.0 ∙ ap (text_start fresh) (sym e ∙ is.2) ∙ quoted_begins fresh (is.0 ++ is.1)) stands.1 e is
no_piece_at_fault fresh cs _ _ (Directive ps) rest (open_string is) e stands =
    false≢true (ap (first_is hash) (sym is.2 ∙ e))
no_piece_at_fault fresh cs _ _ (Plain p) rest (open_character is) e stands =
    no_open_character p cs rest (sym stands.0 ∙ ap (text_start fresh) (sym e ∙ is.2) ∙ character_begins fresh (is.0 ++ is.1)) stands.1 e is
no_piece_at_fault fresh cs _ _ (Directive ps) rest (open_character is) e stands =
    false≢true (ap (first_is hash) (sym is.2 ∙ e))
no_piece_at_fault fresh cs _ _ (Plain p) rest (bad_number is) e stands =
    part_no_bad_number p (sym stands.0 ∙ ap (text_start fresh) (sym e) ∙ bad_number_begins fresh cs is)
no_piece_at_fault fresh cs _ _ (Directive ps) rest (bad_number is) e stands =
    false≢true (sym (zero_begins cs is) ∙ ap (first_is hash) e)

front_nil : (xs ys : List ℕ) → [] ≡ xs ++ ys → xs ≡ []
front_nil [] ys e = refl
front_nil (x ∷ xs) ys e = absurd cc

piece_not_nothing : (fresh : Bool) (p : Piece) (rest : List ℕ) → Stands fresh p rest → [] ≡ piece_spelling p ++ rest → ⊥
piece_not_nothing fresh p rest stands e =
    let long = piece_positive fresh p rest stands in
    let none : byte_len (piece_spelling p) ≡ 0 = ap byte_len (front_nil (piece_spelling p) rest e) in
    absurd (omega arith)

no_piece_at_stop : (fresh : Bool) (cs : List ℕ) (p : Piece) (rest : List ℕ) → Stops fresh cs → cs ≡ piece_spelling p ++ rest → Stands fresh p rest → ⊥
no_piece_at_stop fresh cs p rest (at_end ends) e stands = piece_not_nothing fresh p rest stands (sym ends ∙ e)
no_piece_at_stop fresh cs p rest (at_fault number offset fault) e stands = no_piece_at_fault fresh cs number offset p rest fault e stands

pieces_same : (p q : Piece) (ps qs : List Piece) → p ≡ q → ps ≡ qs → p ∷ ps ≡ q ∷ qs
pieces_same p q ps qs e f = cc

-- two readings of one text, each up to where its pieces stop, are one
pub one_reading : (fresh : Bool) (ps qs : List Piece) (r s : List ℕ) → ArePieces fresh ps r → ArePieces fresh qs s → Stops (fresh_past fresh ps) r → Stops (fresh_past fresh qs) s → text_of ps ++ r ≡ text_of qs ++ s → (ps ≡ qs) × (r ≡ s)
one_reading fresh [] [] r s each_p each_q stops_r stops_s e = (refl, e)
one_reading fresh [] (q ∷ qs) r s each_p each_q stops_r stops_s e =
    absurd (no_piece_at_stop fresh r q (text_of qs ++ s) stops_r (e ∙ append_assoc (piece_spelling q) (text_of qs) s) each_q.0)
one_reading fresh (p ∷ ps) [] r s each_p each_q stops_r stops_s e =
    absurd (no_piece_at_stop fresh s p (text_of ps ++ r) stops_s (sym e ∙ append_assoc (piece_spelling p) (text_of ps) r) each_p.0)
one_reading fresh (p ∷ ps) (q ∷ qs) r s each_p each_q stops_r stops_s e =
    let whole : piece_spelling p ++ (text_of ps ++ r) ≡ piece_spelling q ++ (text_of qs ++ s) = sym (append_assoc (piece_spelling p) (text_of ps) r) ∙ e ∙ append_assoc (piece_spelling q) (text_of qs) s in
    let one = one_piece fresh p q (text_of ps ++ r) (text_of qs ++ s) each_p.0 each_q.0 whole in
    let same_fresh : fresh_after fresh q ≡ fresh_after fresh p = ap (fresh_after fresh) (sym one.0) in
    let others = one_reading (fresh_after fresh p) ps qs r s each_p.1 (subst (λ (b : Bool). ArePieces b qs s) same_fresh each_q.1) stops_r (subst (λ (b : Bool). Stops (fresh_past b qs) s) same_fresh stops_s) one.1 in
    (pieces_same p q ps qs one.0 others.0, others.1)

-- ---- one fault

pub no_fault_at_end : (fresh : Bool) (number offset : ℕ) → HasFault fresh [] number offset → ⊥
no_fault_at_end fresh _ _ (open_comment is) = let h = is.1 in absurd cc
no_fault_at_end fresh _ _ (open_comment_in_directive ps rest is_fresh whole each is) = absurd cc
no_fault_at_end fresh _ _ (open_string is) = let h = is.2 in absurd cc
no_fault_at_end fresh _ _ (open_character is) = let h = is.2 in absurd cc
no_fault_at_end fresh _ _ (bad_number is) = false≢true is

-- which fault it is, by its first character
abbrev number_by : List ℕ → ℕ
number_by cs = cond (first_is slash cs || first_is hash cs) 2 (cond (first_is double_quote cs || first_is single_quote cs) 3 4)

number_is : (fresh : Bool) (cs : List ℕ) (number offset : ℕ) → HasFault fresh cs number offset → number ≡ number_by cs
number_is fresh cs _ _ (open_comment is) = sym (ap number_by is.1)
number_is fresh cs _ _ (open_comment_in_directive ps rest is_fresh whole each is) = sym (ap number_by whole)
number_is fresh cs _ _ (open_string is) = sym (ap number_by is.2)
number_is fresh cs _ _ (open_character is) = sym (ap number_by is.2)
number_is fresh cs _ _ (bad_number is) = sym (ap number_by (zero_first cs is).1)

offset_is : (fresh : Bool) (cs : List ℕ) (number offset : ℕ) → first_is hash cs ≡ false → HasFault fresh cs number offset → offset ≡ 0
offset_is fresh cs _ _ no_hash (open_comment is) = refl
offset_is fresh cs _ _ no_hash (open_comment_in_directive ps rest is_fresh whole each is) = absurd (false≢true (sym no_hash ∙ ap (first_is hash) whole))
offset_is fresh cs _ _ no_hash (open_string is) = refl
offset_is fresh cs _ _ no_hash (open_character is) = refl
offset_is fresh cs _ _ no_hash (bad_number is) = refl

-- a fault after a `#`
record InDirective (cs : List ℕ) (offset : ℕ) : Type 0 where
  parts : List Part
  rest : List ℕ
  whole : cs ≡ hash ∷ (spellings parts ++ rest)
  each : AreInDirective parts rest
  stops : IsOpenComment rest
  offset_is : offset ≡ 1 + byte_len (spellings parts)

after_hash : (fresh : Bool) (cs : List ℕ) (number offset : ℕ) → first_is hash cs ≡ true → HasFault fresh cs number offset → InDirective cs offset
after_hash fresh cs _ _ is_hash (open_comment is) = absurd (false≢true (sym (ap (first_is hash) is.1) ∙ is_hash))
after_hash fresh cs _ _ is_hash (open_comment_in_directive ps rest is_fresh whole each is) = record { parts = ps; rest = rest; whole = whole; each = each; stops = is; offset_is = refl }
after_hash fresh cs _ _ is_hash (open_string is) = absurd (false≢true (sym (ap (first_is hash) is.2) ∙ is_hash))
after_hash fresh cs _ _ is_hash (open_character is) = absurd (false≢true (sym (ap (first_is hash) is.2) ∙ is_hash))
after_hash fresh cs _ _ is_hash (bad_number is) = absurd (false≢true (sym (zero_begins cs is) ∙ is_hash))

one_offset_after : (cs : List ℕ) (k j : ℕ) → InDirective cs k → InDirective cs j → k ≡ j
one_offset_after cs k j a b =
    let heads : hash ∷ (spellings a.parts ++ a.rest) ≡ hash ∷ (spellings b.parts ++ b.rest) = sym a.whole ∙ b.whole in
    let following : spellings a.parts ++ a.rest ≡ spellings b.parts ++ b.rest = cc in
    let one = one_directive a.parts b.parts a.rest b.rest a.each b.each (inr a.stops) (inr b.stops) following in
    a.offset_is ∙ ap (λ (ps : List Part). 1 + byte_len (spellings ps)) one.0 ∙ sym b.offset_is

one_offset : (fresh : Bool) (cs : List ℕ) (n k m j : ℕ) (is_hash : Bool) → first_is hash cs ≡ is_hash → HasFault fresh cs n k → HasFault fresh cs m j → k ≡ j
one_offset fresh cs n k m j true e a b = one_offset_after cs k j (after_hash fresh cs n k e a) (after_hash fresh cs m j e b)
one_offset fresh cs n k m j false e a b = offset_is fresh cs n k e a ∙ sym (offset_is fresh cs m j e b)

-- one fault stands at a place
pub one_fault : (fresh : Bool) (cs : List ℕ) (n k m j : ℕ) → HasFault fresh cs n k → HasFault fresh cs m j → (n ≡ m) × (k ≡ j)
one_fault fresh cs n k m j a b = (number_is fresh cs n k a ∙ sym (number_is fresh cs m j b), one_offset fresh cs n k m j (first_is hash cs) refl a b)
