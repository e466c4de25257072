-- How large a structure is with room for so many elements at its end.
use Rattle.std.specs.Prelude.{◌≡◌, ℕ, ◌+◌, ◌*◌, true, false, Option, Some, None, List, [], ◌∷◌, slice_get}
use Rattle.gt_types.specs.declared.expressions.Expr.{Expr}
use Rattle.gt_types.specs.declared.types.TypeId.{TypeId}
use Rattle.gt_types.specs.declared.types.Ty.{Ty}
use Rattle.gt_types.specs.declared.types.Ty.TheVariants as ty
use Rattle.gt_types.specs.declared.program.Field.{Field}
use Rattle.gt_types.specs.declared.program.Structure.{Structure}
use Rattle.gt_types.specs.declared.program.Program.{Program}
use Rattle.gt_types.specs.Contains.{HasStructure}
use Rattle.gt_types.specs.Shapes.{is_structure}
use Rattle.gt_types.specs.Tails.{tail_of}
use Rattle.gt_layout.specs.declared.planes.Plane.{Plane}
use Rattle.gt_layout.specs.Storages.{extent_of, storage_of}
use Rattle.gt_layout.specs.Places.{end_of, last_offset}
use Rattle.gt_layout.specs.Planes.{IsSize}

mutual
  -- The size of a structure at a capacity. A struct that ends in an array with a length has room for so many elements from
  -- the offset of the array on; a union has room for each member at this capacity; any other struct has the size of its plane.
  pub data SizeAt (program : Program) (planes : List Plane) (capacity : ℕ) : TypeId → ℕ → Type 0 where
    of_tail : {node : TypeId} {s : Structure} {plane : Plane} {elem : Ty} {size : ℕ} → HasStructure program node s → slice_get planes node.0 ≡ Some plane
        → s.is_union ≡ false → tail_of s.fields ≡ Some elem
        → IsSize plane.align (8 * (last_offset plane.fields + capacity * (extent_of planes elem).size) ∷ []) size → SizeAt program planes capacity node size
    of_union : {node : TypeId} {s : Structure} {plane : Plane} {ends : List ℕ} {size : ℕ} → HasStructure program node s → slice_get planes node.0 ≡ Some plane
        → s.is_union ≡ true → MemberEnds program planes capacity s.fields ends → IsSize plane.align ends size → SizeAt program planes capacity node size
    of_struct : {node : TypeId} {s : Structure} {plane : Plane} → HasStructure program node s → slice_get planes node.0 ≡ Some plane
        → s.is_union ≡ false → tail_of s.fields ≡ None → SizeAt program planes capacity node plane.size

  -- for each member of a union, the bit after its last: a structure takes its size at the capacity
  pub data MemberEnds (program : Program) (planes : List Plane) (capacity : ℕ) : List Field → List ℕ → Type 0 where
    none : MemberEnds program planes capacity [] []
    of_structure : {f : Field} {fs : List Field} {node : TypeId} {desc : Option Expr} {size : ℕ} {ends : List ℕ} → f.ty ≡ ty.Node node desc
        → SizeAt program planes capacity node size → MemberEnds program planes capacity fs ends → MemberEnds program planes capacity (f ∷ fs) (8 * size ∷ ends)
    of_field : {f : Field} {fs : List Field} {ends : List ℕ} → is_structure f.ty ≡ false → MemberEnds program planes capacity fs ends
        → MemberEnds program planes capacity (f ∷ fs) (end_of (storage_of planes f.ty) 0 ∷ ends)
