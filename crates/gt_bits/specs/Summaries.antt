-- No promise: what a summary says of the words of a set.
use Rattle.std.specs.Prelude.{◌≡◌, ℕ, ◌+◌, ◌/◌, ◌↔◌, true, List, length}
use Rattle.gt_bits.specs.Sets.{has}

-- word k of the set has a number
abbrev pub HasSome : List ℕ → ℕ → Type 0
HasSome words k = (i : ℕ) × (i / 64 ≡ k) × (has words i ≡ true)

-- the summary is the set of the numbers of the words that have a number, in one word for 64 of them
pub record IsSummary (words summary : List ℕ) : Type 0 where
  pub len : length summary ≡ (length words + 63) / 64
  pub each : (k : ℕ) → has summary k ≡ true ↔ HasSome words k
