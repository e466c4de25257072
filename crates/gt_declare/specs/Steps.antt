-- No promise: one step of a path.
use Rattle.std.specs.Prelude.{ℕ, List, Option, slice_get}
use Rattle.gt_types.specs.declared.types.TypeId.{TypeId}
use Rattle.gt_types.specs.declared.program.Structure.{Structure}
use Rattle.gt_fields.specs.Places.{bind, place_in}
use Rattle.gt_declare.specs.Programs.{structure_in}

-- the place of a field of a structure
abbrev pub place_of : List Structure → TypeId → List ℕ → Option ℕ
place_of structures from name = bind (slice_get structures from.0) (place_in name)

-- the structure by value that the field at a place is
abbrev pub inner_of : List Structure → TypeId → ℕ → Option TypeId
inner_of structures from place = bind (slice_get structures from.0) (λ s. bind (slice_get s.fields place) (λ f. structure_in f.ty))
