-- The members of a union: which one is active, and which are a structure.
use Rattle.std.specs.Prelude.{ℕ, ◌==◌, ℤ, Bool, true, false, List, Option, Some, None}
use Rattle.std.specs.Ordering.{int_eq}
use Rattle.std.specs.List.{position_from}
use Rattle.gt_types.specs.declared.types.TypeId.{TypeId}
use Rattle.gt_types.specs.declared.types.Ty.{Ty}
use Rattle.gt_types.specs.declared.types.Ty.TheVariants as ty
use Rattle.gt_types.specs.declared.program.Active.{Active}
use Rattle.gt_types.specs.declared.program.Active.TheVariants.{Tag, Other}
use Rattle.gt_types.specs.declared.program.Field.{Field}

abbrev pub is_tag : Option ℤ → Active → Bool
is_tag (Some value) (Tag tag) = int_eq value tag
is_tag value active = false

abbrev pub is_default : Active → Bool
is_default Other = true
is_default active = false

abbrev pub first_place : Option ℕ → Option ℕ → Option ℕ
first_place (Some place) other = Some place
first_place None other = other

-- the member whose tag is the value of the `desc`, else the default, else none; without a value no tag is it
abbrev pub active_member : Option ℤ → List Field → Option ℕ
active_member value fields = first_place (position_from (λ f. is_tag value f.active) 0 fields) (position_from (λ f. is_default f.active) 0 fields)

-- a type is this structure
abbrev pub is_node : TypeId → Ty → Bool
is_node node (ty.Node other desc) = node.0 == other.0
is_node node type = false

-- the place of the first member that is a structure, where one is given
abbrev pub place_of : List Field → Option TypeId → Option ℕ
place_of fields (Some node) = position_from (λ f. is_node node f.ty) 0 fields
place_of fields None = None
