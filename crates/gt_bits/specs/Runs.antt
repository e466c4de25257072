-- No promise: what the searches below an end give, and what a word adds to a search.
use Rattle.std.specs.Prelude.{◌≡◌, ◌≢◌, ℕ, ◌+◌, ◌-◌, ◌<◌, ◌≤◌, true, false, List, Option, IfSome, IfNone}
use Rattle.std.specs.Int.{bit_at}
use Rattle.gt_bits.specs.Sets.{has, HoldsAll, HoldsNone}
use Rattle.gt_bits.specs.declared.runs.Run.{Run}

-- the least number of the set that is not below `from` and is below `end`, or none where none is
pub record IsNextBelow (words : List ℕ) (from end : ℕ) (result : Option ℕ) : Type 0 where
  pub held : IfSome result (λ i. has words i ≡ true)
  pub reached : IfSome result (λ i. from ≤ i)
  pub below : IfSome result (λ i. i < end)
  pub least : IfSome result (HoldsNone words from)
  pub none : IfNone result (HoldsNone words from end)

-- a run of the set, cut at `end`, with nothing of the set between `from` and it: it has a number, and goes on as far as the set does
pub record IsRun (words : List ℕ) (from end : ℕ) (run : Run) : Type 0 where
  pub start : from ≤ run.start
  pub some : run.start < run.stop
  pub stop : run.stop ≤ end
  pub before : HoldsNone words from run.start
  pub all : HoldsAll words run.start run.stop
  pub maximal : run.stop < end → has words run.stop ≡ false

-- the first run from `from` on, cut at `end`, or none where nothing of the set is there
pub record IsNextRun (words : List ℕ) (from end : ℕ) (result : Option Run) : Type 0 where
  pub run : IfSome result (IsRun words from end)
  pub none : IfNone result (HoldsNone words from end)

-- the word that begins with number `at` has those of the numbers from `start` up to `stop` that are not below `at`
abbrev pub HasAbove : (word at start stop : ℕ) → Type 0
HasAbove word at start stop = (j : ℕ) → at ≤ j → start ≤ j → j < stop → bit_at word (j - at) ≡ 1

-- the least start, from `first` on, of n numbers that the word has as far as they are not below it, or none where there is none
pub record IsStartIn (word at first n : ℕ) (result : Option ℕ) : Type 0 where
  pub reached : IfSome result (λ start. first ≤ start)
  pub within : IfSome result (λ start. start + n ≤ at + 64)
  pub run : IfSome result (λ start. HasAbove word at start (start + n))
  pub lowest : IfSome result (λ start. (c : ℕ) → first ≤ c → c < start → at < c + n → ¬ (HasAbove word at c (c + n)))
  pub none : IfNone result ((c : ℕ) → first ≤ c → at < c + n → ¬ (HasAbove word at c (c + n)))

-- where the run that reaches the end of the word begins: with `first`, or after the last number that the word has not
pub record IsRunStart (word at first result : ℕ) : Type 0 where
  pub reached : first ≤ result
  pub within : result ≤ at + 64
  pub all : HasAbove word at result (at + 64)
  pub edge : result ≢ first → (at < result) × (bit_at word (result - 1 - at) ≡ 0)
