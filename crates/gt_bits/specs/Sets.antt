use Rattle.std.specs.Prelude.{◌≡◌, ℕ, ◌+◌, ◌*◌, ◌/◌, ◌%◌, ◌^◌, ◌<◌, ◌≤◌, ◌==◌, Bool, true, false, List, length, filter, slice_index_or, Option, IfSome, IfNone}
use Rattle.std.specs.List.{range_with_len}
use Rattle.std.specs.Int.{bit_at}

-- a number is in a set of words: its bit is set
abbrev pub has : List ℕ → ℕ → Bool
has words i = bit_at (slice_index_or words (i / 64) 0) (i % 64) == 1

-- the numbers of a set, upwards
abbrev pub members : List ℕ → List ℕ
members words = filter (has words) (range_with_len 0 (64 * length words))

-- the numbers that could be in the set are fewer than 2 ^ 32
abbrev pub Fits : List ℕ → Type 0
Fits words = 64 * length words < 2 ^ 32

-- the numbers from `start` up to `stop`, without `stop`, are all in the set
abbrev pub HoldsAll : List ℕ → ℕ → ℕ → Type 0
HoldsAll words start stop = (j : ℕ) → start ≤ j → j < stop → has words j ≡ true

-- none of the numbers from `start` up to `stop`, without `stop`, is in the set
abbrev pub HoldsNone : List ℕ → ℕ → ℕ → Type 0
HoldsNone words start stop = (j : ℕ) → start ≤ j → j < stop → has words j ≡ false

-- the least number of the set that is not below `from`, or none where none is
pub record IsNext (words : List ℕ) (from : ℕ) (result : Option ℕ) : Type 0 where
  pub held : IfSome result (λ i. has words i ≡ true)
  pub reached : IfSome result (λ i. from ≤ i)
  pub within : IfSome result (λ i. i < 64 * length words)
  pub least : IfSome result (HoldsNone words from)
  pub none : IfNone result ((j : ℕ) → from ≤ j → has words j ≡ false)

-- the least number that is not below `from`, is below `end` and is not in the set, or none where none is
pub record IsNextGap (words : List ℕ) (from end : ℕ) (result : Option ℕ) : Type 0 where
  pub missing : IfSome result (λ i. has words i ≡ false)
  pub reached : IfSome result (λ i. from ≤ i)
  pub below : IfSome result (λ i. i < end)
  pub least : IfSome result (HoldsAll words from)
  pub none : IfNone result (HoldsAll words from end)

-- from `start` on, n numbers one after another are in the set and below `end`
abbrev pub HasRun : List ℕ → ℕ → ℕ → ℕ → Type 0
HasRun words n end start = (start + n ≤ end) × HoldsAll words start (start + n)

-- where the lowest run of n numbers below `end` begins, or none where there is no such run
pub record IsLowestRun (words : List ℕ) (n end : ℕ) (result : Option ℕ) : Type 0 where
  pub run : IfSome result (HasRun words n end)
  pub lowest : IfSome result (λ start. (other : ℕ) → other < start → ¬ (HasRun words n end other))
  pub none : IfNone result ((start : ℕ) → ¬ (HasRun words n end start))

-- how many numbers the longest run below `end` has; 0 where no number below `end` is in the set
pub record IsLongestRun (words : List ℕ) (end result : ℕ) : Type 0 where
  pub run : (start : ℕ) × HasRun words result end start
  pub longest : (n start : ℕ) → HasRun words n end start → n ≤ result
