-- The count of a set, bit by bit.
use Rattle.std.proofs.Common.{◌≡◌, ℕ, zero, suc, ◌+◌, ◌*◌, ◌/◌, ◌%◌, ◌^◌, ◌<◌, ◌≤◌, ◌==◌, Bool, cond, List, length, get_or, filter, count_by, map, refl, sym, ap, ◌∙◌, inl, inr, arith, map-id}
use Rattle.std.proofs.lemmas.Bool.{cases_eq}
use Rattle.std.proofs.lemmas.List.Sums.{length-filter}
use Rattle.std.proofs.lemmas.List.FromFn.{sum_by-map-range_with_len_more}
use Rattle.std.proofs.lemmas.Nat.{mod-pow-add, ones-le, ones_cat, zero_from_ones, mod_below, pow_pos}
use Rattle.std.specs.Prelude.{count_ones}
use Rattle.std.specs.List.{range_with_len}
use Rattle.std.specs.Int.{bit_at}
use Rattle.gt_bits.specs.Sets.{has}
use Rattle.gt_bits.proofs.SetLemmas.{has_at}

-- how many of the numbers below n are in the set
abbrev pub count_below : List ℕ → ℕ → ℕ
count_below words n = length (filter (has words) (range_with_len 0 n))

count_by-whole : (p : ℕ → Bool) (n : ℕ) → count_by p (map (λ x. x) (range_with_len 0 n)) ≡ length (filter p (range_with_len 0 n))
count_by-whole p n = ap (count_by p) (map-id (range_with_len 0 n)) ∙ sym (length-filter p (range_with_len 0 n))

count_below_more : (words : List ℕ) (n : ℕ) → count_below words (n + 1) ≡ count_below words n + cond (has words n) 1 0
count_below_more words n =
    sym (count_by-whole (has words) (n + 1))
    ∙ (sum_by-map-range_with_len_more (λ x. cond (has words x) 1 0) (λ x. x) 0 n n (omega arith)
    ∙ ap (λ x. x + cond (has words n) 1 0) (count_by-whole (has words) n))

one_has_ones : 0 < count_ones 1
one_has_ones = elim (cases_eq (count_ones 1) 0) [
  | inl none ↦ absurd (let no : 1 ≡ 0 = zero_from_ones 1 none in omega arith)
  | inr some ↦ omega arith
]

ones_of_bit : (x : ℕ) → x < 2 → count_ones x ≡ cond (x == 1) 1 0
ones_of_bit x small = elim (cases_eq x 0) [
  | inl none ↦ rw none (omega (arith, ones-le 0 0 (omega arith)))
  | inr some ↦ let one : x ≡ 1 = omega arith in rw one (omega (arith, ones-le 1 1 (omega arith), one_has_ones))
]

-- the bits below b + 1 of a word are bit b and those below it
ones_more : (word b : ℕ) → count_ones (word % 2 ^ (b + 1)) ≡ count_ones (word % 2 ^ b) + cond (bit_at word b == 1) 1 0
ones_more word b =
    let turned : b + 1 ≡ 1 + b = omega arith in
    let low : word % 2 ^ b < 2 ^ b = mod_below word (2 ^ b) (pow_pos b) in
    let parts = ap count_ones (ap (λ x. word % 2 ^ x) turned ∙ mod-pow-add word 1 b) in
    let cat = ones_cat b (word / 2 ^ b % 2 ^ 1) (word % 2 ^ b) low in
    let top = ones_of_bit (bit_at word b) (omega arith) in
    omega arith

module _ (words : List ℕ) (i : ℕ) where
  count_in_word : (b : ℕ) → b ≤ 64 → count_below words (64 * i + b) ≡ count_below words (64 * i) + count_ones (get_or words i 0 % 2 ^ b)
  count_in_word zero low =
      let sum : 64 * i + 0 ≡ 64 * i = omega arith in
      let none : get_or words i 0 % 2 ^ 0 ≡ 0 = omega arith in
      let counted = ap (count_below words) sum in
      let ones = ap count_ones none in
      omega (arith, ones-le 0 0 (omega arith))
  count_in_word (suc b) low =
      let next : suc b ≡ b + 1 = omega arith in
      let sum : 64 * i + suc b ≡ 64 * i + b + 1 = omega arith in
      let word : ℕ = get_or words i 0 in
      let here : has words (64 * i + b) ≡ (bit_at word b == 1) = has_at words (64 * i + b) i b _ (omega arith) (omega arith) refl in
      let counted : count_below words (64 * i + suc b) ≡ count_below words (64 * i + b) + cond (has words (64 * i + b)) 1 0 = ap (count_below words) sum ∙ count_below_more words (64 * i + b) in
      let same : cond {A = ℕ} (has words (64 * i + b)) 1 0 ≡ cond {A = ℕ} (bit_at word b == 1) 1 0 = ap (λ x. cond {A = ℕ} x 1 0) here in
      let lower = count_in_word b (omega arith) in
      let ones : count_ones (word % 2 ^ suc b) ≡ count_ones (word % 2 ^ b) + cond (bit_at word b == 1) 1 0 = ap (λ x. count_ones (word % 2 ^ x)) next ∙ ones_more word b in
      omega arith

  -- one word more
  pub count_word : get_or words i 0 < 2 ^ 64 → count_below words (64 * (i + 1)) ≡ count_below words (64 * i) + count_ones (get_or words i 0)
  count_word fits =
      let sum : 64 * (i + 1) ≡ 64 * i + 64 = omega arith in
      let whole : get_or words i 0 % 2 ^ 64 ≡ get_or words i 0 = omega arith in
      ap (count_below words) sum ∙ (count_in_word 64 (omega arith) ∙ ap (λ x. count_below words (64 * i) + count_ones x) whole)
