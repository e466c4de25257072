-- Words that are made zero.
use Rattle.std.specs.Prelude.{◌≡◌, ◌+◌, ◌<◌, ◌≤◌, ℕ, List, Contains, slice_index}
use Rattle.gt_space.specs.Range.{Range, KeepsAddresses}

-- the k-th byte of a range is one of the eight bytes at one of these addresses
abbrev pub IsInWord : List ℕ → Range → ℕ → Type 0
IsInWord words r k = (word : ℕ) × Contains words word × (word ≤ r.start + k) × (r.start + k < word + 8)

-- the bytes of these words are zero, and all others are as before
pub record IsZeroedAt (words : List ℕ) (old new : Range) : Type 0 where
  pub addresses : KeepsAddresses old new
  pub zero : (k : ℕ) → IsInWord words old k → slice_index new.bytes k ≡ 0
  pub others : (k : ℕ) → ¬ IsInWord words old k → slice_index new.bytes k ≡ slice_index old.bytes k
