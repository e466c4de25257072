-- A text cut at the first of a byte.
use Rattle.std.proofs.Common.{◌≡◌, ℕ, suc, ◌+◌, ◌-◌, ◌<◌, Bool, true, false, not, cond, eqb, ltb, List, [], ◌∷◌, ◌++◌, length, take, drop, Option, Some, None, refl, sym, ap, subst, ◌∙◌, arith}
use Rattle.std.specs.Option.{option_map_or}
use Rattle.std.specs.List.{position, position_or_len, list_all, slice_split, onto_first}
use Rattle.std.proofs.lemmas.Bool.Decides.{nat_tests}
use Rattle.std.proofs.lemmas.Bool.{eqb-true, false_from_ne_true}
use Rattle.std.proofs.lemmas.Option.{cond_some, same_Some}
use Rattle.std.proofs.lemmas.List.{length-append, length-drop, take_all}
use Rattle.std.proofs.lemmas.List.Splits.{length-slice_split}
use Rattle.std.proofs.lemmas.List.Sums.{position_or_len_is}
use Rattle.memchr.specs.Find.{IsFirstByte, is_byte}
use Rattle.gt_split.specs.Texts.{◌>>=◌, parts_at, without_empty_last, lines_of}
use Rattle.gt_split.proofs.Options.{bind_some, both}

-- the first place of the byte, as `position` finds it
abbrev first : ℕ → List ℕ → ℕ
first byte text = position_or_len (λ c. eqb c byte) text

-- the same, as it is searched
pub place_is : (byte : ℕ) (text : List ℕ) (r : Option ℕ) → IsFirstByte (is_byte byte) text r → r ≡ position (λ c. eqb c byte) text
place_is byte text None h =
    let all : first byte text ≡ length text = position_or_len_is (λ c. eqb c byte) text (length text) 0 (omega arith) (λ k l. false_from_ne_true _ (h k (omega arith) l)) (λ l. absurd (omega arith)) in
    let none : ltb (first byte text) (length text) ≡ false = grind (arith, nat_tests) in
    rw none refl
place_is byte text (Some k) h =
    let here : first byte text ≡ k = position_or_len_is (λ c. eqb c byte) text k 0 (omega (arith, h.0.high)) (λ j l. false_from_ne_true _ (h.0.before j (omega arith) l)) (λ l. h.1) in
    let inside : ltb (first byte text) (length text) ≡ true = grind (arith, nat_tests, h.0.high) in
    rw inside (ap Some (sym here))

-- the parts round a place, where it is in the text
abbrev parts_round : ℕ → List ℕ → Option (List ℕ × List ℕ)
parts_round at text = cond (ltb at (length text)) (Some (take at text, drop (at + 1) text)) None

abbrev onto : ℕ → Option (List ℕ × List ℕ) → Option (List ℕ × List ℕ)
onto c parts = parts >>= λ p. Some (c ∷ p.0, p.1)

onto_round : (c : ℕ) (cs : List ℕ) (at next : ℕ) (b : Bool) → next ≡ suc at → ltb at (length cs) ≡ b → onto c (parts_round at cs) ≡ parts_round next (c ∷ cs)
onto_round c cs at next true e h =
    let long : ltb next (length (c ∷ cs)) ≡ true = grind (arith, nat_tests) in
    let after : next + 1 ≡ suc (at + 1) = omega arith in
    rw (h, long, after, e) refl
onto_round c cs at next false e h =
    let short : ltb next (length (c ∷ cs)) ≡ false = grind (arith, nat_tests) in
    rw (h, short) refl

round_here : (byte c : ℕ) (cs : List ℕ) (b : Bool) → eqb c byte ≡ b → parts_at byte cs ≡ parts_round (first byte cs) cs → parts_at byte (c ∷ cs) ≡ parts_round (first byte (c ∷ cs)) (c ∷ cs)
unfolding parts_at
round_here byte c cs true e h =
    let here : first byte (c ∷ cs) ≡ 0 = rw e refl in
    let long : ltb 0 (length (c ∷ cs)) ≡ true = grind (arith, nat_tests) in
    rw (here, e, long) refl
round_here byte c cs false e h =
    let next : first byte (c ∷ cs) ≡ suc (first byte cs) = rw e (omega arith) in
    let later : parts_at byte (c ∷ cs) ≡ onto c (parts_at byte cs) = rw e refl in
    later ∙ ap (onto c) h ∙ onto_round c cs (first byte cs) (first byte (c ∷ cs)) _ next refl

parts_are : (byte : ℕ) (text : List ℕ) → parts_at byte text ≡ parts_round (first byte text) text
unfolding parts_at
parts_are byte [] = refl
parts_are byte (c ∷ cs) = round_here byte c cs (eqb c byte) refl (parts_are byte cs)

cut_at : (byte : ℕ) (text : List ℕ) (at : ℕ) → position (λ c. eqb c byte) text ≡ Some at → parts_at byte text ≡ Some (take at text, drop (at + 1) text)
cut_at byte text at e =
    let g = cond_some (ltb (first byte text) (length text)) (first byte text) at e in
    parts_are byte text ∙ rw (g.0, g.1) refl

-- the same as the code has it
pub cut_here : (byte : ℕ) (text : List ℕ) (at : ℕ) → position (λ c. eqb c byte) text ≡ Some at → Some (take at text, take (length text - (at + 1)) (drop (at + 1) text)) ≡ parts_at byte text
cut_here byte text at e =
    let rest : take (length text - (at + 1)) (drop (at + 1) text) ≡ drop (at + 1) text = take_all _ _ (omega (arith, length-drop (at + 1) text)) in
    rw rest (sym (cut_at byte text at e))

no_cut : (b : Bool) (at : ℕ) (parts : List ℕ × List ℕ) → cond b (Some at) None ≡ None → cond b (Some parts) None ≡ None
no_cut true at parts e = absurd cc
no_cut false at parts e = refl

pub cut_none : (byte : ℕ) (text : List ℕ) → position (λ c. eqb c byte) text ≡ None → parts_at byte text ≡ None
cut_none byte text e = parts_are byte text ∙ no_cut (ltb (first byte text) (length text)) (first byte text) (take (first byte text) text, drop (first byte text + 1) text) e

-- ---- what the parts are

taken_here : (byte c : ℕ) (cs : List ℕ) (parts : List ℕ × List ℕ) (b : Bool) → eqb c byte ≡ b → cond b (Some ([], cs)) (onto c (parts_at byte cs)) ≡ Some parts
    → ((later : List ℕ × List ℕ) → parts_at byte cs ≡ Some later → cs ≡ later.0 ++ byte ∷ later.1) → c ∷ cs ≡ parts.0 ++ byte ∷ parts.1
taken_here byte c cs parts true e h more =
    let same : c ≡ byte = eqb-true c byte e in
    subst (λ (p : List ℕ × List ℕ). c ∷ cs ≡ p.0 ++ byte ∷ p.1) (same_Some ([], cs) parts h) (rw same refl)
taken_here byte c cs parts false e h more =
    let later = bind_some (parts_at byte cs) (λ p. Some (c ∷ p.0, p.1)) parts h in
    subst (λ (p : List ℕ × List ℕ). c ∷ cs ≡ p.0 ++ byte ∷ p.1) (same_Some (c ∷ later.0.0, later.0.1) parts later.2) (ap (λ (l : List ℕ). c ∷ l) (more later.0 later.1))

pub parts_taken : (byte : ℕ) (text : List ℕ) (parts : List ℕ × List ℕ) → parts_at byte text ≡ Some parts → text ≡ parts.0 ++ byte ∷ parts.1
unfolding parts_at
parts_taken byte [] parts e = absurd cc
parts_taken byte (c ∷ cs) parts e = taken_here byte c cs parts (eqb c byte) refl e (parts_taken byte cs)

-- none of the bytes
abbrev pub lacks : ℕ → List ℕ → Bool
lacks byte text = list_all (λ c. not (eqb c byte)) text

lacked : (b : Bool) → not b ≡ true → b ≡ false
lacked true h = absurd cc
lacked false h = refl

pub parts_again : (byte : ℕ) (front back : List ℕ) → lacks byte front ≡ true → parts_at byte (front ++ byte ∷ back) ≡ Some (front, back)
unfolding parts_at
parts_again byte [] back h =
    let here : eqb byte byte ≡ true = grind (arith, nat_tests) in rw here refl
parts_again byte (c ∷ front) back h =
    let g = both (not (eqb c byte)) (lacks byte front) h in
    rw (lacked (eqb c byte) g.0, parts_again byte front back g.1) refl

pub parts_none : (byte : ℕ) (text : List ℕ) → lacks byte text ≡ true → parts_at byte text ≡ None
unfolding parts_at
parts_none byte [] h = refl
parts_none byte (c ∷ cs) h =
    let g = both (not (eqb c byte)) (lacks byte cs) h in
    rw (lacked (eqb c byte) g.0, parts_none byte cs g.1) refl

-- ---- lines

abbrev parts_of : List ℕ → List (List ℕ)
parts_of text = slice_split (λ c. eqb c 10) text

abbrev from_first : List ℕ → Option (List ℕ × List ℕ) → List (List ℕ)
from_first text parts = option_map_or (λ p. p.0 ∷ parts_of p.1) parts (text ∷ [])

from_first-onto : (c : ℕ) (cs : List ℕ) (parts : Option (List ℕ × List ℕ)) → from_first (c ∷ cs) (onto c parts) ≡ onto_first c (from_first cs parts)
from_first-onto c cs None = refl
from_first-onto c cs (Some parts) = refl

split_here : (c : ℕ) (cs : List ℕ) (b : Bool) → parts_of cs ≡ from_first cs (parts_at 10 cs)
    → cond b ([] ∷ parts_of cs) (onto_first c (parts_of cs)) ≡ from_first (c ∷ cs) (cond b (Some ([], cs)) (onto c (parts_at 10 cs)))
split_here c cs true h = refl
split_here c cs false h = ap (onto_first c) h ∙ sym (from_first-onto c cs (parts_at 10 cs))

split_is : (text : List ℕ) → parts_of text ≡ from_first text (parts_at 10 text)
unfolding parts_at
split_is [] = refl
split_is (c ∷ cs) = split_here c cs (eqb c 10) (split_is cs)

keeps : (part : List ℕ) (parts : List (List ℕ)) → 0 < length parts → without_empty_last (part ∷ parts) ≡ part ∷ without_empty_last parts
keeps part [] h = absurd (omega arith)
keeps part (next ∷ parts) h = refl

-- a line that a newline ends
pub lines_first : (text : List ℕ) (parts : List ℕ × List ℕ) → parts_at 10 text ≡ Some parts → lines_of text ≡ parts.0 ∷ lines_of parts.1
lines_first text parts e =
    let whole : parts_of text ≡ parts.0 ∷ parts_of parts.1 = split_is text ∙ ap (from_first text) e in
    ap without_empty_last whole ∙ keeps parts.0 (parts_of parts.1) (omega (arith, length-slice_split (λ c. eqb c 10) parts.1))

-- a last line that lacks it
pub lines_last : (text : List ℕ) → 0 < length text → parts_at 10 text ≡ None → lines_of text ≡ text ∷ []
lines_last text h e =
    let whole : parts_of text ≡ text ∷ [] = split_is text ∙ ap (from_first text) e in
    let some : eqb (length text) 0 ≡ false = grind (arith, nat_tests) in
    ap without_empty_last whole ∙ rw some refl

pub shorter : (byte : ℕ) (text : List ℕ) (parts : List ℕ × List ℕ) → parts_at byte text ≡ Some parts → length parts.1 < length text
shorter byte text parts e =
    omega (arith, ap length (parts_taken byte text parts e), length-append parts.0 (byte ∷ parts.1))
