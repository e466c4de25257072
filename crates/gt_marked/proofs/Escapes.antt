-- The bytes of a text without the backslashes of escapes, one byte at a time.
use Rattle.std.proofs.Common.{◌≡◌, ◌≢◌, ℕ, ◌+◌, ◌<◌, ◌≤◌, true, false, List, [], ◌∷◌, ◌++◌, length, get_or, drop, Option, Some, None, refl, sym, ap, ◌∙◌, append_assoc, add-one, drop-cons, arith}
use Rattle.std.specs.Prelude.{◌==◌, ◌||◌}
use Rattle.std.specs.Option.{option_map}
use Rattle.std.proofs.lemmas.List.{append-nil, drop_all}
use Rattle.gt_marked.specs.Markers.{unescaped}

following : (made : List ℕ) (b : ℕ) (found : Option (List ℕ)) → option_map (λ rest. made ++ rest) (option_map (λ rest. b ∷ rest) found) ≡ option_map (λ rest. (made ++ b ∷ []) ++ rest) found
following made b None = refl
following made b (Some rest) = rw append_assoc refl

backslash : (b : ℕ) (bs : List ℕ) → b ≡ 92 → unescaped false (b ∷ bs) ≡ unescaped true bs
unfolding unescaped
backslash b bs e = rw e refl

plain : (b : ℕ) (bs : List ℕ) → b ≢ 92 → unescaped false (b ∷ bs) ≡ option_map (λ rest. b ∷ rest) (unescaped false bs)
unfolding unescaped
plain b bs n = let e : (b == 92) ≡ false = grind arith in rw e refl

escaped : (b : ℕ) (bs : List ℕ) → ((b == 34) || (b == 92)) ≡ true → unescaped true (b ∷ bs) ≡ option_map (λ rest. b ∷ rest) (unescaped false bs)
unfolding unescaped
escaped b bs e = rw e refl

wrong : (b : ℕ) (bs : List ℕ) → ((b == 34) || (b == 92)) ≡ false → unescaped true (b ∷ bs) ≡ None
unfolding unescaped
wrong b bs e = rw e refl

-- after the bytes that were made, at a byte of the text
module _ (text made : List ℕ) (i : ℕ) (total : Option (List ℕ)) (lt : i < length text) where
  front : drop i text ≡ get_or text i 0 ∷ drop (i + 1) text
  front = rw (add-one, drop-cons text i 0) refl

  pub unescaped_backslash : option_map (λ rest. made ++ rest) (unescaped false (drop i text)) ≡ total → get_or text i 0 ≡ 92 → option_map (λ rest. made ++ rest) (unescaped true (drop (i + 1) text)) ≡ total
  unescaped_backslash so_far e = ap (option_map (λ rest. made ++ rest)) (sym (ap (unescaped false) front ∙ backslash _ _ e)) ∙ so_far

  pub unescaped_plain : option_map (λ rest. made ++ rest) (unescaped false (drop i text)) ≡ total → get_or text i 0 ≢ 92 → option_map (λ rest. (made ++ get_or text i 0 ∷ []) ++ rest) (unescaped false (drop (i + 1) text)) ≡ total
  unescaped_plain so_far n = sym (following made _ _) ∙ ap (option_map (λ rest. made ++ rest)) (sym (ap (unescaped false) front ∙ plain _ _ n)) ∙ so_far

  pub unescaped_escaped : option_map (λ rest. made ++ rest) (unescaped true (drop i text)) ≡ total → ((get_or text i 0 == 34) || (get_or text i 0 == 92)) ≡ true → option_map (λ rest. (made ++ get_or text i 0 ∷ []) ++ rest) (unescaped false (drop (i + 1) text)) ≡ total
  unescaped_escaped so_far e = sym (following made _ _) ∙ ap (option_map (λ rest. made ++ rest)) (sym (ap (unescaped true) front ∙ escaped _ _ e)) ∙ so_far

  pub unescaped_wrong : option_map (λ rest. made ++ rest) (unescaped true (drop i text)) ≡ total → ((get_or text i 0 == 34) || (get_or text i 0 == 92)) ≡ false → None ≡ total
  unescaped_wrong so_far e = ap (option_map (λ rest. made ++ rest)) (sym (ap (unescaped true) front ∙ wrong _ _ e)) ∙ so_far

-- at the end of the text
pub unescaped_ends : (text made : List ℕ) (i : ℕ) (total : Option (List ℕ)) → length text ≤ i → option_map (λ rest. made ++ rest) (unescaped false (drop i text)) ≡ total → Some made ≡ total
unfolding unescaped
unescaped_ends text made i total h so_far =
    let end : drop i text ≡ [] = drop_all i text h in ap Some (sym (append-nil made)) ∙ sym (ap (λ bs. option_map (λ rest. made ++ rest) (unescaped false bs)) end) ∙ so_far

pub unescaped_breaks : (text made : List ℕ) (i : ℕ) (total : Option (List ℕ)) → length text ≤ i → option_map (λ rest. made ++ rest) (unescaped true (drop i text)) ≡ total → None ≡ total
unfolding unescaped
unescaped_breaks text made i total h so_far =
    let end : drop i text ≡ [] = drop_all i text h in sym (ap (λ bs. option_map (λ rest. made ++ rest) (unescaped true bs)) end) ∙ so_far
