-- The parts of a text, one at a time.
use Rattle.std.proofs.Common.{◌≡◌, ℕ, zero, suc, ℤ, pos, ◌-◌, ◌<◌, ◌≤◌, true, false, List, [], ◌∷◌, length, get_or, take, drop, Some, refl, sym, ap, ◌∙◌, arith}
use Rattle.std.specs.Option.{option_map}
use Rattle.std.specs.Prelude.{◌==◌}
use Rattle.std.proofs.lemmas.Bool.{eqb-true, eqb-false}
use Rattle.std.proofs.lemmas.List.{take_rest, nil_from_length}
use Rattle.gt_text.specs.Integer.{integer_of}
use Rattle.gt_text.specs.WhiteSpace.{is_white_space_of}
use Rattle.gt_expr.specs.declared.part.Part.{Part}
use Rattle.gt_expr.specs.Parts.{part_at, parts_after, parts_of, BeginsPart}

-- a text that is not empty
pub some_from : (text : List ℕ) → false ≡ (length text == 0) → 0 < length text
some_from text e = let some : length text ≡ 0 → ⊥ = eqb-false (length text) 0 (sym e) in omega arith

parts_after-drop : (n : ℕ) (text : List ℕ) → parts_after n text ≡ parts_after 0 (drop n text)
unfolding parts_after
parts_after-drop zero text = refl
parts_after-drop (suc n) [] = refl
parts_after-drop (suc n) (b ∷ bs) = parts_after-drop n bs

pub parts_of-empty : (text : List ℕ) → true ≡ (length text == 0) → parts_of text ≡ []
unfolding parts_after
parts_of-empty text e = rw (nil_from_length text (eqb-true (length text) 0 (sym e))) refl

pub parts_of-space : (text : List ℕ) → 0 < length text → true ≡ is_white_space_of (get_or text 0 0) → parts_of (take (length text - 1) (drop 1 text)) ≡ parts_of text
unfolding parts_after
parts_of-space [] h e = absurd (omega arith)
parts_of-space (b ∷ bs) h e = ap parts_of (take_rest (b ∷ bs) 1) ∙ rw (sym e) refl

pub parts_of-part : (text : List ℕ) (p : Part) (n : ℕ) → BeginsPart text → n ≤ length text → 0 < n → ◌≡◌ {A = Part × ℕ} (p, n) (part_at text) → parts_of text ≡ p ∷ parts_of (take (length text - n) (drop n text))
unfolding parts_after
parts_of-part [] p n begins within some e = absurd (omega arith)
parts_of-part (b ∷ bs) p n begins within some e =
    let k : n ≡ suc (n - 1) = omega arith in
    let part : (part_at (b ∷ bs)).0 ≡ p = ap (λ (x : Part × ℕ). x.0) (sym e) in
    let len : (part_at (b ∷ bs)).1 ≡ n = ap (λ (x : Part × ℕ). x.1) (sym e) in
    let following : drop (n - 1) bs ≡ drop n (b ∷ bs) = ap (λ m. drop m (b ∷ bs)) (sym k) in
    let here : parts_of (b ∷ bs) ≡ p ∷ parts_after (n - 1) bs = rw (begins, part, len) refl in
    here ∙ ap (λ ps. p ∷ ps) (parts_after-drop (n - 1) bs ∙ ap parts_of (following ∙ sym (take_rest (b ∷ bs) n)))

-- no integer literal is empty
pub integer_of-some : (n : ℕ) (text : List ℕ) (value : ℤ) → Some value ≡ option_map pos (integer_of (take n text)) → 0 < n
unfolding integer_of
integer_of-some zero text value e = absurd cc
integer_of-some (suc n) text value e = omega arith
