-- Sets of structures.
use Rattle.std.specs.Prelude.{◌≡◌, ℕ, true, List}
use Rattle.gt_bits.specs.Sets.{has}

-- the structure of this number is in the set with these words: its bit is set
abbrev pub IsIn : List ℕ → ℕ → Type 0
IsIn words i = has words i ≡ true
