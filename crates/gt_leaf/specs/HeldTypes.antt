-- No promise: the type of a leaf, by what it lies in.
use Rattle.std.specs.Prelude.{◌≡◌, ℕ, Option, Some, slice_get}
use Rattle.gt_types.specs.declared.types.TypeId.{TypeId}
use Rattle.gt_types.specs.declared.types.Ty.{Ty}
use Rattle.gt_types.specs.declared.program.Program.{Program}
use Rattle.gt_types.specs.Shapes.{innermost}
use Rattle.gt_tree.specs.Scopes.{◌then◌}
use Rattle.gt_value.specs.declared.places.Holder.{Holder}
use Rattle.gt_value.specs.declared.places.Holder.TheVariants as lies_in
use Rattle.gt_value.specs.declared.places.Place.{Place}
use Rattle.gt_value.specs.Places.{Part, leaf_kind, length_there}

-- the type of a field, of which an array has its elements
abbrev pub field_type : Program → TypeId → ℕ → Option Ty
field_type program node i = slice_get program.structures node.0 then λ s. slice_get s.fields i then λ f. Some (innermost f.ty)

-- so for a root
abbrev pub root_type : Program → ℕ → Option Ty
root_type program i = slice_get program.roots i then λ r. Some (innermost r.ty)

-- the type of a leaf that lies in this, where an element of a block has this type
abbrev pub held_type : Program → Option Ty → Holder → Option Ty
held_type program element lies_in.Element = element then λ type. Some (innermost type)
held_type program element (lies_in.Root i) = root_type program i
held_type program element (lies_in.Field node i) = field_type program node i

-- a place is that of a part of this type
pub record IsOfPart (program : Program) (p : Part) (place : Place) (type : Option Ty) : Type 0 where
  pub active_is : place.active ≡ p.active
  pub kind_is : leaf_kind p.type ≡ Some place.kind
  pub holder_is : place.holder ≡ p.holder
  pub length_is : place.length ≡ length_there program p.scope p.type
  pub type_is : type ≡ Some p.type
