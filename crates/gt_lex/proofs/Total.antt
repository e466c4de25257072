-- Each text has an answer: its tokens, or its first fault.
use Rattle.std.proofs.Common.{◌≡◌, ◌≢◌, ℕ, zero, suc, ◌+◌, ◌<◌, ◌≤◌, Bool, true, false, List, [], ◌∷◌, ◌++◌, length, Option, Some, None, refl, sym, ap, subst, ◌∙◌, ◌⊎◌, inl, inr, append_assoc, arith, IsUtf8}
use Rattle.std.specs.Str.{chars, is_utf8}
use Rattle.std.specs.Str.Lossy.{utf8_valid_len}
use Rattle.std.proofs.lemmas.Bool.{false≢true}
use Rattle.std.proofs.lemmas.Str.{IsUtf8-from_is_utf8, is_utf8-from_IsUtf8}
use Rattle.std.proofs.lemmas.List.{append-nil, length-append}
use Rattle.gt_lex.specs.declared.starts.Start.{Start}
use Rattle.gt_lex.specs.declared.starts.Start.TheVariants as start
use Rattle.gt_lex.specs.Characters.{hash, EndsLine, byte_len}
use Rattle.gt_lex.specs.Starts.{text_start, directive_start}
use Rattle.gt_lex.specs.Extents.{Reaches, IsOpenComment}
use Rattle.gt_lex.specs.Parts.{Part, Piece, Plain, Directive, spelling, spellings, piece_spelling, text_of}
use Rattle.gt_lex.specs.Texts.{start_of, AreInDirective, Stands, ArePieces, fresh_after, fresh_past, tokens_from, defines_from, open_comment_in_directive, bad_number, bad_utf8, following, HasAnswer, has_tokens, has_fault}
use Rattle.gt_lex.specs.Reading.{rest_of}
use Rattle.gt_lex.specs.Progress.{open_fault_of}
use Rattle.gt_lex.proofs.Opening.{Opens, text_opens, directive_opens, directive_ends, text_ends, OpensDirective, directive_fresh, first_split}
use Rattle.gt_lex.proofs.Parts.{Taken, takes}
use Rattle.gt_lex.proofs.Directives.{spelling_positive, directive_open}
use Rattle.gt_lex.proofs.Offsets.{byte_len_positive}
use Rattle.gt_lex.proofs.Front.{open_at_front}
use Rattle.gt_lex.proofs.Unique.{Stops, at_end, at_fault}

-- what follows a front with a byte is shorter
shorter : (cs front rest : List ℕ) → cs ≡ front ++ rest → 0 < byte_len front → length rest < length cs
shorter cs [] rest e positive = absurd (omega arith)
shorter cs (c ∷ front) rest e positive = omega (arith, ap length e, length-append front rest)

-- ---- a directive

record DirectiveRead (cs : List ℕ) : Type 0 where
  parts : List Part
  rest : List ℕ
  whole : cs ≡ spellings parts ++ rest
  each : AreInDirective parts rest
  stops : EndsLine rest ⊎ IsOpenComment rest

with_part : (cs rest : List ℕ) (p : Part) → cs ≡ spelling p ++ rest → directive_start cs ≡ start_of p → Reaches p rest → DirectiveRead rest → DirectiveRead cs
with_part cs rest p e begins reaches read = record {
  parts = p ∷ read.parts;
  rest = read.rest;
  whole = e ∙ ap (λ (x : List ℕ). spelling p ++ x) read.whole ∙ sym (append_assoc (spelling p) (spellings read.parts) read.rest);
  each = (
    sym (ap directive_start (e ∙ ap (λ (x : List ℕ). spelling p ++ x) read.whole)) ∙ begins,
    subst (λ (x : List ℕ). Reaches p x) read.whole reaches,
    read.each,
  );
  stops = read.stops;
}

directive_on : (cs : List ℕ) (s : Start) (o : Option (Bool × List ℕ)) → directive_start cs ≡ s → s ≢ start.End → rest_of s cs ≡ o → ((rest : List ℕ) → length rest < length cs → DirectiveRead rest) → DirectiveRead cs
directive_on cs s None begins not_end e again = record { parts = []; rest = cs; whole = refl; each = tt; stops = inr (directive_open cs s begins not_end e) }
directive_on cs s (Some r) begins not_end e again =
    let taken : Taken s cs r.0 r.1 = takes s cs r.0 r.1 (subst (λ (b : Start). Opens b cs) begins (directive_opens cs)) e in
    let less : length r.1 < length cs = shorter cs (spelling taken.part) r.1 taken.parts (spelling_positive taken.part r.1 taken.reaches) in
    with_part cs r.1 taken.part taken.parts (begins ∙ sym taken.begins) taken.reaches (again r.1 less)

directive_at : (cs : List ℕ) (s : Start) → directive_start cs ≡ s → ((rest : List ℕ) → length rest < length cs → DirectiveRead rest) → DirectiveRead cs
directive_at cs start.End begins again = record { parts = []; rest = cs; whole = refl; each = tt; stops = inl (directive_ends cs begins) }
directive_at cs start.Space begins again = directive_on cs start.Space (rest_of start.Space cs) begins (λ e. absurd cc) refl again
directive_at cs start.Block begins again = directive_on cs start.Block (rest_of start.Block cs) begins (λ e. absurd cc) refl again
directive_at cs start.Line begins again = directive_on cs start.Line (rest_of start.Line cs) begins (λ e. absurd cc) refl again
directive_at cs start.Continuation begins again = directive_on cs start.Continuation (rest_of start.Continuation cs) begins (λ e. absurd cc) refl again
directive_at cs start.Directive begins again = directive_on cs start.Directive (rest_of start.Directive cs) begins (λ e. absurd cc) refl again
directive_at cs start.BadNumber begins again = directive_on cs start.BadNumber (rest_of start.BadNumber cs) begins (λ e. absurd cc) refl again
directive_at cs (start.Token kind) begins again = directive_on cs (start.Token kind) (rest_of (start.Token kind) cs) begins (λ e. absurd cc) refl again

directive_read : (n : ℕ) (cs : List ℕ) → length cs ≤ n → DirectiveRead cs
directive_read zero cs le = directive_at cs (directive_start cs) refl (λ rest less. absurd (omega arith))
directive_read (suc n) cs le = directive_at cs (directive_start cs) refl (λ rest less. directive_read n rest (omega arith))

-- ---- a text

record TextRead (fresh : Bool) (cs : List ℕ) : Type 0 where
  pieces : List Piece
  rest : List ℕ
  whole : cs ≡ text_of pieces ++ rest
  each : ArePieces fresh pieces rest
  stops : Stops (fresh_past fresh pieces) rest

stop_here : (fresh : Bool) (cs : List ℕ) → Stops fresh cs → TextRead fresh cs
stop_here fresh cs stops = record { pieces = []; rest = cs; whole = refl; each = tt; stops = stops }

with_piece : (fresh : Bool) (cs rest : List ℕ) (p : Piece) → cs ≡ piece_spelling p ++ rest → Stands fresh p rest → TextRead (fresh_after fresh p) rest → TextRead fresh cs
with_piece fresh cs rest p e stands read = record {
  pieces = p ∷ read.pieces;
  rest = read.rest;
  whole = e ∙ ap (λ (x : List ℕ). piece_spelling p ++ x) read.whole ∙ sym (append_assoc (piece_spelling p) (text_of read.pieces) read.rest);
  each = (subst (λ (x : List ℕ). Stands fresh p x) read.whole stands, read.each);
  stops = read.stops;
}

abbrev Again : List ℕ → Type 0
Again cs = (fresh : Bool) (rest : List ℕ) → length rest < length cs → TextRead fresh rest

text_on : (fresh : Bool) (cs : List ℕ) (s : Start) (o : Option (Bool × List ℕ)) → text_start fresh cs ≡ s → s ≢ start.End → s ≢ start.BadNumber → s ≢ start.Directive → rest_of s cs ≡ o → Again cs → TextRead fresh cs
text_on fresh cs s None begins not_end not_bad not_directive e again =
    stop_here fresh cs (at_fault (open_fault_of s) 0 (open_at_front fresh s cs begins not_end not_bad not_directive e))
text_on fresh cs s (Some r) begins not_end not_bad not_directive e again =
    let taken : Taken s cs r.0 r.1 = takes s cs r.0 r.1 (subst (λ (b : Start). Opens b cs) begins (text_opens fresh cs)) e in
    let less : length r.1 < length cs = shorter cs (spelling taken.part) r.1 taken.parts (spelling_positive taken.part r.1 taken.reaches) in
    with_piece fresh cs r.1 (Plain taken.part) taken.parts (sym (ap (text_start fresh) taken.parts) ∙ begins ∙ sym taken.begins, taken.reaches) (again (fresh_after fresh (Plain taken.part)) r.1 less)

directive_stop : (fresh : Bool) (cs tail : List ℕ) → fresh ≡ true → cs ≡ hash ∷ tail → (parts : List Part) (rest : List ℕ) → tail ≡ spellings parts ++ rest → AreInDirective parts rest → EndsLine rest ⊎ IsOpenComment rest → Again cs → TextRead fresh cs
directive_stop fresh cs tail is_fresh e parts rest whole each (inl ends) again =
    let all : cs ≡ piece_spelling (Directive parts) ++ rest = e ∙ ap (λ (x : List ℕ). hash ∷ x) whole in
    let less : length rest < length cs = shorter cs (piece_spelling (Directive parts)) rest all (byte_len_positive hash (spellings parts)) in
    with_piece fresh cs rest (Directive parts) all (is_fresh, each, ends) (again (fresh_after fresh (Directive parts)) rest less)
directive_stop fresh cs tail is_fresh e parts rest whole each (inr is) again =
    stop_here fresh cs (at_fault 2 (1 + byte_len (spellings parts)) (open_comment_in_directive parts rest is_fresh (e ∙ ap (λ (x : List ℕ). hash ∷ x) whole) each is))

directive_piece : (fresh : Bool) (cs tail : List ℕ) → fresh ≡ true → cs ≡ hash ∷ tail → DirectiveRead tail → Again cs → TextRead fresh cs
directive_piece fresh cs tail is_fresh e read again = directive_stop fresh cs tail is_fresh e read.parts read.rest read.whole read.each read.stops again

text_at : (fresh : Bool) (cs : List ℕ) (s : Start) → text_start fresh cs ≡ s → Again cs → TextRead fresh cs
text_at fresh cs start.End begins again = stop_here fresh cs (at_end (text_ends fresh cs begins))
text_at fresh cs start.BadNumber begins again = stop_here fresh cs (at_fault 4 0 (bad_number (subst (λ (b : Start). Opens b cs) begins (text_opens fresh cs))))
text_at fresh cs start.Directive begins again =
    let opens = subst (λ (b : Start). OpensDirective fresh cs b) begins (directive_fresh fresh cs) in
    let split = first_split hash cs opens.1 in
    directive_piece fresh cs split.0 opens.0 split.1 (directive_read (length split.0) split.0 (omega arith)) again
text_at fresh cs start.Space begins again = text_on fresh cs start.Space (rest_of start.Space cs) begins (λ e. absurd cc) (λ e. absurd cc) (λ e. absurd cc) refl again
text_at fresh cs start.Block begins again = text_on fresh cs start.Block (rest_of start.Block cs) begins (λ e. absurd cc) (λ e. absurd cc) (λ e. absurd cc) refl again
text_at fresh cs start.Line begins again = text_on fresh cs start.Line (rest_of start.Line cs) begins (λ e. absurd cc) (λ e. absurd cc) (λ e. absurd cc) refl again
text_at fresh cs start.Continuation begins again = text_on fresh cs start.Continuation (rest_of start.Continuation cs) begins (λ e. absurd cc) (λ e. absurd cc) (λ e. absurd cc) refl again
text_at fresh cs (start.Token kind) begins again = text_on fresh cs (start.Token kind) (rest_of (start.Token kind) cs) begins (λ e. absurd cc) (λ e. absurd cc) (λ e. absurd cc) refl again

text_read : (n : ℕ) (fresh : Bool) (cs : List ℕ) → length cs ≤ n → TextRead fresh cs
text_read zero fresh cs le = text_at fresh cs (text_start fresh cs) refl (λ f rest less. absurd (omega arith))
text_read (suc n) fresh cs le = text_at fresh cs (text_start fresh cs) refl (λ f rest less. text_read n f rest (omega arith))

-- ---- the answer

read_answer : (text : List ℕ) → IsUtf8 text → (pieces : List Piece) (rest : List ℕ) → chars text ≡ text_of pieces ++ rest → ArePieces true pieces rest → Stops (fresh_past true pieces) rest → HasAnswer text
read_answer text utf8 pieces rest whole each (at_end ends) =
    has_tokens (tokens_from 0 pieces) (defines_from 0 pieces)
    (record {
      utf8 = utf8;
      pieces = pieces;
      whole = whole ∙ ap (λ (x : List ℕ). text_of pieces ++ x) ends ∙ append-nil (text_of pieces);
      each = subst (λ (x : List ℕ). ArePieces true pieces x) ends each;
      tokens_are = refl;
      defines_are = refl;
    })
read_answer text utf8 pieces rest whole each (at_fault number offset fault) =
    has_fault number (byte_len (text_of pieces) + offset) (following pieces rest number offset utf8 whole each fault)

answer_by : (text : List ℕ) (b : Bool) → is_utf8 text ≡ b → HasAnswer text
answer_by text true e =
    let read = text_read (length (chars text)) true (chars text) (omega arith) in
    read_answer text (IsUtf8-from_is_utf8 text e) read.pieces read.rest read.whole read.each read.stops
answer_by text false e = has_fault 1 (utf8_valid_len text) (bad_utf8 (λ utf8. false≢true (sym e ∙ is_utf8-from_IsUtf8 text utf8)))

pub each_has_answer : (text : List ℕ) → HasAnswer text
each_has_answer text = answer_by text (is_utf8 text) refl
