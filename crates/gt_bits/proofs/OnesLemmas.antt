-- Bits of one word that are set one after another.
use Rattle.std.proofs.Common.{◌≡◌, ℕ, suc, ◌+◌, ◌-◌, ◌*◌, ◌/◌, ◌%◌, ◌^◌, ◌<◌, ◌≤◌, min, Option, Some, None, refl, sym, ap, subst, ◌∙◌, inl, inr, arith, w64}
use Rattle.std.proofs.lemmas.Bool.{cases_lt}
use Rattle.std.proofs.lemmas.Nat.{leading_top, div_below, le-div, pow_pos}
use Rattle.std.proofs.lemmas.Nat.Bits.{bit_at_above, bit_at_and, bit_at_not, bit_at-lt, bit_at-trailing_ones, bit_at_ones}
use Rattle.std.specs.Prelude.{bit_and}
use Rattle.std.specs.Int.{bit_at, bit_not, leading_zeros, trailing_ones}
use Rattle.gt_bits.specs.Places.{AreStarts, IsFirstOnes, IsLastClearBit, IsNextBit}
use Rattle.gt_bits.proofs.WordLemmas.{bit_shifted}

pub AreStarts-one : (word : ℕ) → AreStarts word 1 word
AreStarts-one word = record {
  each = λ b all. let here : b + 0 ≡ b = omega arith in sym (ap (bit_at word) here) ∙ all 0 (omega arith);
  only = λ b set j low. let here : b + j ≡ b = omega arith in ap (bit_at word) here ∙ set;
}

module _ (word len more starts : ℕ) (are : AreStarts word len starts) where
  folded : (b : ℕ) → bit_at (bit_and starts (starts / 2 ^ more)) b ≡ min (bit_at starts b) (bit_at starts (more + b))
  folded b = bit_at_and starts (starts / 2 ^ more) b ∙ ap (min (bit_at starts b)) (bit_shifted starts more b)

  pub AreStarts-more : more ≤ len → AreStarts word (len + more) (bit_and starts (starts / 2 ^ more))
  AreStarts-more short = record {
    each = λ b all.
        let here : bit_at starts b ≡ 1 = are.each b (λ j low. all j (omega arith)) in
        let there : bit_at starts (more + b) ≡ 1 = are.each (more + b) (λ j low. let place : more + b + j ≡ b + (more + j) = omega arith in ap (bit_at word) place ∙ all (more + j) (omega arith)) in
        omega (arith, folded b, here, there);
    only = λ b set j low. elim (cases_lt j len) [
      | inl early ↦ are.only b (omega (arith, folded b, set, bit_at-lt starts b)) j early
      | inr late ↦
          let place : more + b + (j - more) ≡ b + j = omega arith in
          sym (ap (bit_at word) place) ∙ are.only (more + b) (omega (arith, folded b, set, bit_at-lt starts (more + b))) (j - more) (omega arith)
    ];
  }

-- more bits than a word has are not all set
pub IsFirstOnes-none : (word n : ℕ) → word < 2 ^ 64 → 64 < n → IsFirstOnes word n None
IsFirstOnes-none word n fits many = record {
  ones = tt;
  within = tt;
  lowest = tt;
  none = λ c all. let above : bit_at word (c + 64) ≡ 0 = bit_at_above word 64 (c + 64) fits (omega arith) in omega (arith, all 64 many);
}

pub IsFirstOnes-from_starts : (word n starts : ℕ) (result : Option ℕ) → AreStarts word n starts → IsNextBit starts 0 result → IsFirstOnes word n result
IsFirstOnes-from_starts word n starts None are next = record {
  ones = tt;
  within = tt;
  lowest = tt;
  none = λ c all. omega (arith, are.each c all, next.none c (omega arith));
}
IsFirstOnes-from_starts word n starts (Some b) are next = record {
  ones = are.only b next.set;
  within = next.within;
  lowest = λ c low all. omega (arith, are.each c all, next.least c (omega arith) low);
  none = tt;
}

-- the highest bit of a number
bit_at_top : (n j : ℕ) → 2 ^ j ≤ n → n < 2 ^ suc j → bit_at n j ≡ 1
bit_at_top n j low high =
    let double : 2 ^ suc j ≡ 2 * 2 ^ j = omega arith in
    let below : n / 2 ^ j < 2 = div_below n (2 ^ j) 2 (pow_pos j) (omega arith) in
    let above : 1 ≤ n / 2 ^ j = le-div 1 n (2 ^ j) (pow_pos j) (omega arith) in
    let one : n / 2 ^ j ≡ 1 = omega arith in
    ap (λ x. x % 2) one

module _ (word : ℕ) (fits : word < 2 ^ 64) where
  pub IsLastClearBit-none : bit_not w64 word ≡ 0 → IsLastClearBit word None
  IsLastClearBit-none whole = record {
    clear = tt;
    within = tt;
    last = tt;
    none = λ j low. let same : word ≡ 2 ^ 64 - 1 = omega arith in ap (λ x. bit_at x j) same ∙ bit_at_ones 64 j low;
  }

  pub IsLastClearBit-found : 0 < bit_not w64 word → IsLastClearBit word (Some (63 - leading_zeros w64 (bit_not w64 word)))
  IsLastClearBit-found some =
      let clear : ℕ = bit_not w64 word in
      let small : clear < 2 ^ 64 = omega arith in
      let top = leading_top 64 clear some small in
      let last : 63 - leading_zeros w64 clear ≡ top.0 = omega (arith, top.1) in
      let low : top.0 < 64 = omega (arith, top.1) in
      subst (λ x. IsLastClearBit word (Some x)) (sym last) (record {
        clear = omega (arith, bit_at_not w64 word top.0 fits low, bit_at-lt word top.0, bit_at_top clear top.0 top.2 top.3);
        within = low;
        last = λ j high below. let gone : bit_at clear j ≡ 0 = bit_at_above clear (suc top.0) j top.3 high in omega (arith, bit_at_not w64 word j fits below, bit_at-lt word j, gone);
        none = tt;
      })

  -- the lowest bits that are set, up to one that is not
  pub low_ones : (trailing_ones w64 word ≤ 64) × (bit_at word (trailing_ones w64 word) ≡ 0) × ((i : ℕ) → i < trailing_ones w64 word → bit_at word i ≡ 1)
  unfolding lib.Count.count_trailing_zeros
  low_ones = elim (cases_lt (word + 1) (2 ^ 64)) [
    | inl below ↦ let found = bit_at-trailing_ones w64 word below in (omega (arith, found.0), found.1, found.2)
    | inr whole ↦
        let same : word ≡ 2 ^ 64 - 1 = omega arith in
        let full : trailing_ones w64 word ≡ 64 = ap (trailing_ones w64) same ∙ refl in
        subst (λ t. (t ≤ 64) × (bit_at word t ≡ 0) × ((i : ℕ) → i < t → bit_at word i ≡ 1)) (sym full)
        (omega arith, bit_at_above word 64 64 fits (omega arith), λ i low. ap (λ x. bit_at x i) same ∙ bit_at_ones 64 i low)
  ]
