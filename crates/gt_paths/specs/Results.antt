-- No promise: results of a function that has none on some values.
use Rattle.std.specs.Prelude.{◌≡◌, Option, Some}

-- the function has a result, which has the property
abbrev pub HasResult : {X Y : Type 0} → (X → Option Y) → (Y → Type 0) → X → Type 0
HasResult {X} {Y} h P x = (y : Y) × (h x ≡ Some y) × P y
