-- No promise: what the proofs of chain pointers speak of.
use Rattle.std.specs.Prelude.{ℕ, List, Option, Some, slice_get}
use Rattle.gt_types.specs.declared.types.TypeId.{TypeId}
use Rattle.gt_types.specs.declared.types.Ty.{Ty}
use Rattle.gt_types.specs.declared.program.Program.{Program}
use Rattle.gt_types.specs.Paths.{Leads, by_place}
use Rattle.gt_layout.specs.declared.planes.Plane.{Plane}
use Rattle.gt_tree.specs.Scopes.{◌then◌}

-- the type of the field at a place, and the byte at which it begins
abbrev pub field_type : Program → TypeId → ℕ → Option Ty
field_type program node place = slice_get program.structures node.0 then λ s. slice_get s.fields place then λ f. Some f.ty

abbrev pub field_offset : List Plane → TypeId → ℕ → Option ℕ
field_offset planes node place = slice_get planes node.0 then λ plane. slice_get plane.fields place then λ spot. Some spot.offset

-- places lead through fields to a field of some type
abbrev pub LeadsByPlace : Program → TypeId → List ℕ → Type 0
LeadsByPlace program node places = (type : Ty) × Leads program by_place node places type
