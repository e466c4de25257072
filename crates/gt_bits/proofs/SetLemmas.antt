-- What a set has, word by word.
use Rattle.std.proofs.Common.{◌≡◌, ◌≢◌, ℕ, ◌*◌, ◌/◌, ◌%◌, ◌^◌, ◌<◌, ◌≤◌, ◌==◌, true, false, List, length, get_or, set, Option, Some, None, refl, sym, ap, ◌∙◌, inl, inr, arith, w64}
use Rattle.std.proofs.lemmas.Bool.{cases_eq, cases_lt}
use Rattle.std.proofs.lemmas.List.{get_or-set_same, get_or-set_other, get_or_past}
use Rattle.std.proofs.lemmas.Nat.Bits.{bit_at-zero, bit_at_set_same, bit_at_set_other, bit_at_clear_same, bit_at_clear_other}
use Rattle.std.specs.Prelude.{bit_or, bit_and}
use Rattle.std.specs.Int.{bit_at, bit_not}
use Rattle.gt_bits.specs.Sets.{has, IsNext}
use Rattle.gt_bits.specs.Runs.{IsNextBelow}

pub has_by_word : (words : List ℕ) (i k : ℕ) → i / 64 ≡ k → has words i ≡ (bit_at (get_or words k 0) (i % 64) == 1)
has_by_word words i k e = ap (λ x. bit_at (get_or words x 0) (i % 64) == 1) e

-- no number after the last word is in the set
pub has_past : (words : List ℕ) (i : ℕ) → length words ≤ i / 64 → has words i ≡ false
has_past words i past =
    ap (λ b. b == 1) (ap (λ x. bit_at x (i % 64)) (get_or_past words (i / 64) 0 past) ∙ bit_at-zero (i % 64))

-- a number with this bit of this word
pub has_at : (words : List ℕ) (i k b x : ℕ) → i / 64 ≡ k → i % 64 ≡ b → bit_at (get_or words k 0) b ≡ x → has words i ≡ (x == 1)
has_at words i k b x word bit is =
    has_by_word words i k word ∙ (ap (λ y. bit_at (get_or words k 0) y == 1) bit ∙ ap (λ y. y == 1) is)

module _ (words : List ℕ) (i k b v : ℕ) (word : i / 64 ≡ k) (bit : i % 64 ≡ b) (within : i < 64 * length words) where
  written_same : (x : ℕ) → bit_at v b ≡ x → has (set words k v) i ≡ (x == 1)
  written_same x is =
      has_at (set words k v) i k b x word bit (ap (λ y. bit_at y b) (get_or-set_same words k v 0 (omega arith)) ∙ is)

  written_other : ((c : ℕ) → c < 64 → c ≢ b → bit_at v c ≡ bit_at (get_or words k 0) c) → (j : ℕ) → j ≢ i → has (set words k v) j ≡ has words j
  written_other kept j other = elim (cases_eq (j / 64) k) [
    | inl same ↦
        has_at (set words k v) j k (j % 64) _ same refl
        (ap (λ y. bit_at y (j % 64)) (get_or-set_same words k v 0 (omega arith)) ∙ kept (j % 64) (omega arith) (λ e. other (omega arith)))
        ∙ sym (has_by_word words j k same)
    | inr apart ↦ ap (λ y. bit_at y (j % 64) == 1) (get_or-set_other words k (j / 64) v 0 apart)
  ]

module _ (words : List ℕ) (i k b : ℕ) (word : i / 64 ≡ k) (bit : i % 64 ≡ b) (within : i < 64 * length words) where
  pub inserted_same : has (set words k (bit_or (get_or words k 0) (1 * 2 ^ b % 2 ^ 64))) i ≡ true
  inserted_same = written_same words i k b _ word bit within 1 (bit_at_set_same w64 (get_or words k 0) b (omega arith))

  pub inserted_other : (j : ℕ) → j ≢ i → has (set words k (bit_or (get_or words k 0) (1 * 2 ^ b % 2 ^ 64))) j ≡ has words j
  inserted_other = written_other words i k b _ word bit within (λ c low other. bit_at_set_other w64 (get_or words k 0) b (omega arith) c other)

  pub removed_same : has (set words k (bit_and (get_or words k 0) (bit_not w64 (1 * 2 ^ b % 2 ^ 64)))) i ≡ false
  removed_same = written_same words i k b _ word bit within 0 (bit_at_clear_same w64 (get_or words k 0) b (omega arith))

  pub removed_other : (j : ℕ) → j ≢ i → has (set words k (bit_and (get_or words k 0) (bit_not w64 (1 * 2 ^ b % 2 ^ 64)))) j ≡ has words j
  removed_other = written_other words i k b _ word bit within (λ c low other. bit_at_clear_other w64 (get_or words k 0) b (omega arith) c low other)

-- all numbers are below the end of the last word
pub IsNext-from_below : (words : List ℕ) (from : ℕ) (result : Option ℕ) → IsNextBelow words from (64 * length words) result → IsNext words from result
IsNext-from_below words from None next = record {
  held = tt;
  reached = tt;
  within = tt;
  least = tt;
  none = λ j low. elim (cases_lt j (64 * length words)) [
    | inl inside ↦ next.none j low inside
    | inr past ↦ has_past words j (omega arith)
  ];
}
IsNext-from_below words from (Some i) next = record {
  held = next.held;
  reached = next.reached;
  within = next.below;
  least = next.least;
  none = tt;
}
