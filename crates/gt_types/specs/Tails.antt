-- Structures that end in an array with a length.
use Rattle.std.specs.Prelude.{◌≡◌, Bool, true, false, not, ◌&&◌, IsTrue, List, [], ◌∷◌, Option, Some, None, is_some, Contains}
use Rattle.std.specs.List.{list_all}
use Rattle.gt_types.specs.declared.expressions.Expr.{Expr}
use Rattle.gt_types.specs.declared.types.TypeId.{TypeId}
use Rattle.gt_types.specs.declared.types.Ty.{Ty, out-Ty}
use Rattle.gt_types.specs.declared.types.Ty.TheOpen as part
use Rattle.gt_types.specs.declared.types.Ty.TheOpen.{Ty-F}
use Rattle.gt_types.specs.declared.types.Ty.TheVariants as ty
use Rattle.gt_types.specs.declared.program.Field.{Field}
use Rattle.gt_types.specs.declared.program.Structure.{Structure}
use Rattle.gt_types.specs.declared.program.Program.{Program}
use Rattle.gt_types.specs.Shapes.{is_structure, is_tail}
use Rattle.gt_types.specs.Contains.{HasStructure, held_by}

abbrev pub elements_at : Ty-F Ty → Option Ty
elements_at (part.Tail count elem) = Some elem
elements_at type = None

-- what an array with a length has as elements
abbrev pub elements_of : Ty → Option Ty
elements_of type = elements_at (out-Ty type)

-- the elements of the array with a length that is the last of the fields, where it is one
abbrev pub tail_of : List Field → Option Ty
tail_of [] = None
tail_of (f ∷ []) = elements_of f.ty
tail_of (f ∷ g ∷ fs) = tail_of (g ∷ fs)

-- the tail types, the least set of them: a struct whose last field is an array with a length, and a union with a member of a
-- tail type
pub data IsTailType (program : Program) : TypeId → Type 0 where
  ends : {node : TypeId} {s : Structure} → HasStructure program node s → s.is_union ≡ false → IsTrue (is_some (tail_of s.fields)) → IsTailType program node
  has_member : {node member : TypeId} {s : Structure} {f : Field} {desc : Option Expr} → HasStructure program node s → s.is_union ≡ true
      → Contains s.fields f → f.ty ≡ ty.Node member desc → IsTailType program member → IsTailType program node

-- only the last of the fields of a struct may be an array with a length
abbrev pub only_last_is_tail : List Field → Bool
only_last_is_tail [] = true
only_last_is_tail (f ∷ []) = true
only_last_is_tail (f ∷ g ∷ fs) = not (is_tail f.ty) && only_last_is_tail (g ∷ fs)

-- no member of a union is an array with a length
abbrev pub no_tails : List Field → Bool
no_tails fields = list_all (λ f. not (is_tail f.ty)) fields

-- a field holds a tail type by value only as a member of a union, and not in an array
abbrev pub KeepsTails : Program → Structure → Field → Type 0
KeepsTails program s f = (node : TypeId) → held_by f.ty ≡ Some node → IsTailType program node → (s.is_union ≡ true) × IsTrue (is_structure f.ty)
