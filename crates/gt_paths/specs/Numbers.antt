-- Structures by their numbers, and marks by number.
use Rattle.std.specs.Prelude.{ℕ, Bool, false, List, Option, Some, None, slice_get}
use Rattle.gt_types.specs.declared.types.TypeId.{TypeId}
use Rattle.gt_fields.specs.Places.{bind}

-- the structure of a number
abbrev pub numbered : ℕ → TypeId
numbered i = record { 0 = i }

abbrev pub or_false : Option Bool → Bool
or_false (Some b) = b
or_false None = false

-- the mark at a number; there is none from the end on
abbrev pub mark_at : List Bool → ℕ → Bool
mark_at marks i = or_false (slice_get marks i)

-- the mark at a place in the row of a number
abbrev pub mark_in : List (List Bool) → ℕ → ℕ → Bool
mark_in rows i place = or_false (bind (slice_get rows i) (λ row. slice_get row place))
