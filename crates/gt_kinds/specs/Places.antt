-- No promise: how things are found by their names.
use Rattle.std.specs.Prelude.{ℕ, ◌+◌, List, [], ◌∷◌}
use Rattle.gt_names.specs.declared.tables.Entry.{Entry}
use Rattle.gt_names.specs.Entries.{with_value}

-- names of things after others, each with the place of the first of its name; the first thing has this place
unfoldable pub places_from : {T : Type 0} → (T → List ℕ) → List (Entry ℕ) → ℕ → List T → List (Entry ℕ)
places_from called entries place [] = entries
places_from called entries place (thing ∷ things) = places_from called (with_value entries (called thing) place) (place + 1) things
