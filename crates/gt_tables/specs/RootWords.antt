-- No promise: what the proofs of the pointers of deletable roots speak of.
use Rattle.std.specs.Prelude.{ℕ, ◌+◌, ◌/◌, List}
use Rattle.gt_types.specs.declared.program.Root.{Root}
use Rattle.gt_layout.specs.declared.planes.Plane.{Plane}
use Rattle.gt_layout.specs.declared.planes.FieldSpot.{FieldSpot}
use Rattle.gt_layout.specs.Storages.{extent_of}
use Rattle.gt_edges.specs.Deletable.{words_if}

-- the addresses of the pointers of a root at its place
abbrev pub words_of : List Plane → ℕ → Root → FieldSpot → List ℕ
words_of planes start r s = words_if r.deletable (start + s.offset) ((extent_of planes r.ty).size / 8)
