-- Where the pointers of roots lie that a collection clears.
use Rattle.std.specs.Prelude.{ℕ, ◌+◌, ◌*◌, ◌/◌, Bool, true, false, List, [], ◌∷◌, ◌++◌, map}
use Rattle.std.specs.List.{range_with_len}
use Rattle.gt_types.specs.declared.program.Root.{Root}
use Rattle.gt_layout.specs.declared.planes.Plane.{Plane}
use Rattle.gt_layout.specs.declared.planes.FieldSpot.{FieldSpot}
use Rattle.gt_layout.specs.Storages.{extent_of}

-- so many addresses, each eight bytes after the one before it
abbrev pub words_from : ℕ → ℕ → List ℕ
words_from address n = map (λ i. address + 8 * i) (range_with_len 0 n)

abbrev pub words_if : Bool → ℕ → ℕ → List ℕ
words_if true address n = words_from address n
words_if false address n = []

-- A deletable root is a pointer or an array of pointers, one after another: the addresses of all of them, root by root, where the static
-- record begins at an address.
abbrev pub deletable_words : List Plane → ℕ → List Root → List FieldSpot → List ℕ
deletable_words planes start (r ∷ roots) (s ∷ spots) = words_if r.deletable (start + s.offset) ((extent_of planes r.ty).size / 8) ++ deletable_words planes start roots spots
deletable_words planes start roots spots = []
