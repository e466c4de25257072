-- Strings end in their only zero.
use Rattle.std.proofs.Common.{◌≡◌, ◌≢◌, ℕ, ◌+◌, ◌≤◌, Bool, false, IsTrue, List, [], ◌∷◌, ◌++◌, ◌↔◌, ap, sym, subst, ◌∙◌, Some, All, length, drop, arith, length-drop}
use Rattle.std.specs.Prelude.{slice_get, ◌==◌}
use Rattle.std.proofs.lemmas.List.Elements.{All-nil, All-cons, All-head, All-tail}
use Rattle.std.proofs.lemmas.Option.{slice_get_within, get_or_from_slice_get}
use Rattle.gt_tree.specs.Blocks.{Chars, Block, Blocks, IsString}
use Rattle.gt_fit.proofs.Listing.{drop-item, drop-none}
use Rattle.gt_fit.proofs.PartsFit.{never}

-- a string's bytes: the only zero is the last
abbrev pub EndsInItsZero : List ℕ → Type 0
EndsInItsZero chars = (text : List ℕ) × (chars ≡ text ++ 0 ∷ []) × All (λ byte. byte ≢ 0) text

pub equals : (a b : ℕ) → IsTrue (a == b) ↔ (a ≡ b)
equals a b = ((λ h. grind arith), (λ e. grind arith))

ends-never : ¬ EndsInItsZero []
ends-never ([], e, all) = cc
ends-never ((y ∷ ys), e, all) = cc

more-to : (x : ℕ) (xs : List ℕ) → x ≢ 0 → EndsInItsZero (x ∷ xs) → EndsInItsZero xs
more-to x xs off ([], e, all) = absurd (off (cc))
more-to x xs off ((y ∷ ys), e, all) = let rest : xs ≡ ys ++ 0 ∷ [] = cc in (ys, rest, All-tail (λ byte. byte ≢ 0) y ys all)

more-of : (x : ℕ) (xs : List ℕ) → x ≢ 0 → EndsInItsZero xs → EndsInItsZero (x ∷ xs)
more-of x xs off (text, e, all) = (x ∷ text, ap (λ t. x ∷ t) e, All-cons (λ byte. byte ≢ 0) x text off all)

zero-to : (xs : List ℕ) → EndsInItsZero (0 ∷ xs) → xs ≡ []
zero-to xs ([], e, all) = cc
zero-to xs ((y ∷ ys), e, all) = let first : y ≡ 0 = cc in absurd (All-head (λ byte. byte ≢ 0) y ys all first)

zero-of : (xs : List ℕ) → xs ≡ [] → EndsInItsZero (0 ∷ xs)
zero-of xs e = ([], ap (λ t. 0 ∷ t) e, All-nil (λ byte. byte ≢ 0))

module _ (blocks : Blocks) (id : ℕ) (b : Block) (got : blocks id ≡ Some b) (of_chars : b.kind ≡ Chars) where
  string-of : EndsInItsZero b.chars → IsString blocks id
  string-of (text, e, all) = (b, text, got, of_chars, e, all)

  string-to : IsString blocks id → EndsInItsZero b.chars
  string-to (other, text, has, kind, e, all) = let same : other ≡ b = cc in subst (λ (x : Block). EndsInItsZero x.chars) same (text, e, all)

  module _ (i x : ℕ) (at : slice_get b.chars i ≡ Some x) where
    left : drop i b.chars ≡ x ∷ drop (i + 1) b.chars
    left = drop-item b.chars i x (slice_get_within b.chars i x at) (sym (get_or_from_slice_get b.chars i x x at))

    pub ending-more : x ≢ 0 → (EndsInItsZero (drop i b.chars) ↔ EndsInItsZero b.chars) → EndsInItsZero (drop (i + 1) b.chars) ↔ EndsInItsZero b.chars
    ending-more off so =
        let here : EndsInItsZero (x ∷ drop (i + 1) b.chars) ↔ EndsInItsZero b.chars = subst (λ (t : List ℕ). EndsInItsZero t ↔ EndsInItsZero b.chars) left so in
        ((λ rest. here.0 (more-of x (drop (i + 1) b.chars) off rest)), (λ all. more-to x (drop (i + 1) b.chars) off (here.1 all)))

    pub ending-here : (n : ℕ) (r : Bool) → x ≡ 0 → n ≡ length b.chars → (EndsInItsZero (drop i b.chars) ↔ EndsInItsZero b.chars) → (IsTrue r ↔ (i + 1 ≡ n)) → IsTrue r ↔ IsString blocks id
    ending-here n r zero long so is =
        let here : EndsInItsZero (0 ∷ drop (i + 1) b.chars) ↔ EndsInItsZero b.chars = subst (λ (t : List ℕ). EndsInItsZero t ↔ EndsInItsZero b.chars) (left ∙ ap (λ y. y ∷ drop (i + 1) b.chars) zero) so in
        let within = slice_get_within b.chars i x at in (
          (λ h. string-of (here.0 (zero-of (drop (i + 1) b.chars) (drop-none b.chars (i + 1) (let e = is.0 h in omega (arith, e, long)))))),
          (λ s. is.1 (let none = ap (λ (t : List ℕ). length t) (zero-to (drop (i + 1) b.chars) (here.1 (string-to s))) in let long_left = length-drop (i + 1) b.chars in omega (arith, none, long_left, within, long))),
        )

  pub ending-never : (i : ℕ) → length b.chars ≤ i → (EndsInItsZero (drop i b.chars) ↔ EndsInItsZero b.chars) → IsTrue false ↔ IsString blocks id
  ending-never i past so =
      never (IsString blocks id) (λ s. ends-never (subst (λ (t : List ℕ). EndsInItsZero t) (drop-none b.chars i past) (so.1 (string-to s))))
