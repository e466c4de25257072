-- The bits of one word.
use Rattle.std.proofs.Common.{◌≡◌, ℕ, ◌+◌, ◌-◌, ◌/◌, ◌%◌, ◌^◌, ◌<◌, ◌≤◌, Option, Some, None, sym, ap, ◌∙◌, inl, inr, arith, w64}
use Rattle.std.proofs.lemmas.Bool.{cases_lt}
use Rattle.std.proofs.lemmas.Nat.{shr-shr, shr_le}
use Rattle.std.proofs.lemmas.Nat.Bits.{bit_at-zero, bit_at-trailing_zeros, bit_at_above, bit_at_not, bit_at-lt}
use Rattle.std.specs.Int.{bit_at, bit_not, trailing_zeros}
use Rattle.gt_bits.specs.Places.{IsNextBit, IsNextClearBit}

pub bit_shifted : (word from k : ℕ) → bit_at (word / 2 ^ from) k ≡ bit_at word (from + k)
bit_shifted word from k = ap (λ x. x % 2) (shr-shr word from k)

bit_from : (word from j : ℕ) → from ≤ j → bit_at word j ≡ bit_at (word / 2 ^ from) (j - from)
bit_from word from j h =
    let whole : from + (j - from) ≡ j = omega arith in
    sym (bit_shifted word from (j - from) ∙ ap (bit_at word) whole)

pub IsNextBit-none : (word from : ℕ) → word / 2 ^ from ≡ 0 → IsNextBit word from None
IsNextBit-none word from gone = record {
  set = tt;
  reached = tt;
  within = tt;
  least = tt;
  none = λ j h. bit_from word from j h ∙ (ap (λ x. bit_at x (j - from)) gone ∙ bit_at-zero (j - from));
}

pub IsNextBit-found : (word from : ℕ) → 0 < word / 2 ^ from → word < 2 ^ 64 → IsNextBit word from (Some (from + trailing_zeros w64 (word / 2 ^ from)))
IsNextBit-found word from some fits =
    let rest : ℕ = word / 2 ^ from in
    let lowest = bit_at-trailing_zeros w64 rest some (omega (arith, shr_le word from)) in
    let place : ℕ = trailing_zeros w64 rest in
    let is_set : bit_at word (from + place) ≡ 1 = sym (bit_shifted word from place) ∙ lowest.1 in
    record {
      set = is_set;
      reached = omega arith;
      within = elim (cases_lt (from + place) 64) [
        | inl low ↦ low
        | inr high ↦ absurd (let above : bit_at word (from + place) ≡ 0 = bit_at_above word 64 (from + place) fits high in omega arith)
      ];
      least = λ j h low. bit_from word from j h ∙ lowest.2 (j - from) (omega arith);
      none = tt;
    }

module _ (word : ℕ) (fits : word < 2 ^ 64) where
  clear_where_set : (i : ℕ) → i < 64 → bit_at (bit_not w64 word) i ≡ 1 → bit_at word i ≡ 0
  clear_where_set i low set = omega (arith, bit_at_not w64 word i fits low, bit_at-lt word i, set)

  set_where_clear : (i : ℕ) → i < 64 → bit_at (bit_not w64 word) i ≡ 0 → bit_at word i ≡ 1
  set_where_clear i low clear = omega (arith, bit_at_not w64 word i fits low, bit_at-lt word i, clear)

  pub IsNextClearBit-from_not : (from : ℕ) (result : Option ℕ) → IsNextBit (bit_not w64 word) from result → IsNextClearBit word from result
  IsNextClearBit-from_not from None next = record {
    clear = tt;
    reached = tt;
    within = tt;
    least = tt;
    none = λ j high low. set_where_clear j low (next.none j high);
  }
  IsNextClearBit-from_not from (Some i) next =
      let low : i < 64 = next.within in
      record {
        clear = clear_where_set i low next.set;
        reached = next.reached;
        within = low;
        least = λ j high below. set_where_clear j (omega arith) (next.least j high below);
        none = tt;
      }
