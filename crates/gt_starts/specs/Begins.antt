-- Sets of structures.
use Rattle.std.specs.Prelude.{ℕ, ◌⊎◌, List, [], ◌∷◌, slice_index_or}
use Rattle.gt_sets.specs.Sets.{IsIn}

-- one of these sets has the structure of this number
abbrev pub IsInSome : List (List ℕ) → ℕ → Type 0
IsInSome [] begin = ⊥
IsInSome (set ∷ sets) begin = IsIn set begin ⊎ IsInSome sets begin

-- the sets of the row of this number; past the end there are none
abbrev pub sets_at : List (List (List ℕ)) → ℕ → List (List ℕ)
sets_at rows n = slice_index_or rows n []
