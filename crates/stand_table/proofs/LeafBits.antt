-- Bits of leaves, leaf by leaf, byte by byte.
use Rattle.std.proofs.Common.{◌≡◌, inl, inr, ℕ, ◌+◌, ◌*◌, ◌/◌, ◌%◌, ◌<◌, ◌≤◌, Bool, true, false, List, [], ◌∷◌, length, drop, get_or, ap, sym, subst, ◌∙◌, arith, drop-cons, add-one}
use Rattle.std.proofs.Math.ListN.{drop_of_length-le}
use Rattle.std.specs.Prelude.{◌||◌, slice_index}
use Rattle.std.proofs.lemmas.Bool.{cases_lt}
use Rattle.std.specs.List.{list_any}
use Rattle.gt_tree.specs.Leaves.{bit_of, is_set_in}
use Rattle.gt_value.specs.Bytes.{itself}
use Rattle.stand_table.specs.declared.leaves.Leaf.{Leaf}
use Rattle.stand_table.specs.Leaves.{leaf_of, leaves_in}

-- the item at a place is the first of what is left there
pub drop-place : {X : Type 0} (xs : List X) (i : ℕ) (d : X) → i < length xs → drop i xs ≡ get_or xs i d ∷ drop (i + 1) xs
drop-place xs i d h = drop-cons xs i d h ∙ ap (λ n. get_or xs i d ∷ drop n xs) (sym (add-one i))

pub drop-item : {X : Type 0} (xs : List X) (i : ℕ) (x : X) → i < length xs → x ≡ get_or xs i x → drop i xs ≡ x ∷ drop (i + 1) xs
drop-item xs i x h e = drop-place xs i x h ∙ ap (λ y. y ∷ drop (i + 1) xs) (sym e)

pub drop-none : {X : Type 0} (xs : List X) (i : ℕ) → length xs ≤ i → drop i xs ≡ []
drop-none xs i h = drop_of_length-le xs h

-- ---- a bit in some leaf

abbrev pub is_set : ℕ → List Leaf → Bool
is_set bit leaves = list_any (is_set_in itself bit) (leaves_in leaves)

module _ (bit : ℕ) (leaves : List Leaf) (i : ℕ) where
  at : (l : Leaf) → i < length leaves → l ≡ get_or leaves i l → is_set bit (l ∷ drop (i + 1) leaves) ≡ is_set bit (drop i leaves)
  at l low is = ap (is_set bit) (sym (drop-item leaves i l low is))

  pub set-more : (l : Leaf) → i < length leaves → l ≡ get_or leaves i l → is_set_in itself bit (leaf_of l) ≡ false → is_set bit (drop i leaves) ≡ is_set bit leaves
      → is_set bit (drop (i + 1) leaves) ≡ is_set bit leaves
  set-more l low is off so = sym (ap (λ b. b || is_set bit (drop (i + 1) leaves)) off) ∙ at l low is ∙ so

  pub set-found : (l : Leaf) → i < length leaves → l ≡ get_or leaves i l → is_set_in itself bit (leaf_of l) ≡ true → is_set bit (drop i leaves) ≡ is_set bit leaves → true ≡ is_set bit leaves
  set-found l low is on so = sym (ap (λ b. b || is_set bit (drop (i + 1) leaves)) on) ∙ at l low is ∙ so

  pub set-none : length leaves ≤ i → is_set bit (drop i leaves) ≡ is_set bit leaves → false ≡ is_set bit leaves
  set-none past so = sym (ap (is_set bit) (drop-none leaves i past)) ∙ so

-- ---- the bits of a byte

-- so many bits of the byte at a place are set just where they are set in some leaf
abbrev pub BitsAgree : List Leaf → ℕ → ℕ → ℕ → Type 0
BitsAgree leaves place byte n = (k : ℕ) → k < n → bit_of byte k ≡ is_set (8 * place + k) leaves

pub agree-more : (leaves : List Leaf) (place byte n : ℕ) → bit_of byte n ≡ is_set (8 * place + n) leaves → BitsAgree leaves place byte n → BitsAgree leaves place byte (n + 1)
agree-more leaves place byte n here so k low =
    elim (cases_lt k n) [ inl lt ↦ so k lt | inr le ↦ (let same : n ≡ k = omega (arith, low, le) in subst (λ j. bit_of byte j ≡ is_set (8 * place + j) leaves) same here) ]

-- ---- bytes one after another

module _ (leaves : List Leaf) (bytes : List ℕ) where
  -- so do the bits of so many bytes
  abbrev pub StandSoFar : ℕ → Type 0
  StandSoFar n = (i : ℕ) → i < 8 * n → bit_of (slice_index bytes (i / 8)) (i % 8) ≡ is_set i leaves
