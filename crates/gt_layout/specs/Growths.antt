-- How structures grow with the number of elements for which there is room at their end.
use Rattle.std.specs.Prelude.{◌≡◌, ◌≤◌, ◌<◌, ℕ, ◌+◌, ◌*◌, max, true, false, List, [], ◌∷◌, Option, Some, length, slice_get, All, AllPairs, Any, Contains}
use Rattle.gt_types.specs.declared.expressions.Expr.{Expr}
use Rattle.gt_types.specs.declared.types.TypeId.{TypeId}
use Rattle.gt_types.specs.declared.types.Ty.{Ty}
use Rattle.gt_types.specs.declared.types.Ty.TheVariants as ty
use Rattle.gt_types.specs.declared.program.Field.{Field}
use Rattle.gt_types.specs.declared.program.Structure.{Structure}
use Rattle.gt_types.specs.declared.program.Program.{Program}
use Rattle.gt_types.specs.Contains.{HasStructure}
use Rattle.gt_types.specs.Tails.{tail_of}
use Rattle.gt_layout.specs.declared.planes.Growth.{Growth}
use Rattle.gt_layout.specs.declared.planes.Plane.{Plane}
use Rattle.gt_layout.specs.declared.planes.TailSpot.{TailSpot}
use Rattle.gt_layout.specs.Storages.{extent_of}
use Rattle.gt_layout.specs.Places.{last_offset}

abbrev pub tail_spot : ℕ → ℕ → TailSpot
tail_spot offset elem_size = record { offset = offset; elem_size = elem_size }

-- An array with a length lies in a structure: as the last field of a struct, or in a member of a union, which begins where the
-- union does.
pub data HasTail (program : Program) (planes : List Plane) : TypeId → TailSpot → Type 0 where
  at_end : {node : TypeId} {s : Structure} {plane : Plane} {elem : Ty} → HasStructure program node s → slice_get planes node.0 ≡ Some plane
      → s.is_union ≡ false → tail_of s.fields ≡ Some elem → HasTail program planes node (tail_spot (last_offset plane.fields) (extent_of planes elem).size)
  in_member : {node inner : TypeId} {s : Structure} {f : Field} {desc : Option Expr} {tail : TailSpot} → HasStructure program node s → s.is_union ≡ true
      → Contains s.fields f → f.ty ≡ ty.Node inner desc → HasTail program planes inner tail → HasTail program planes node tail

-- an array of elements of this size begins there, or later
abbrev pub Reaches : List TailSpot → TailSpot → Type 0
Reaches tails tail = Any (λ other. (other.elem_size ≡ tail.elem_size) × (tail.offset ≤ other.offset)) tails

-- for each size of elements, once and in rising order, the last place in a structure at which an array of such elements begins
pub record AreTails (program : Program) (planes : List Plane) (node : TypeId) (tails : List TailSpot) : Type 0 where
  pub there : All (HasTail program planes node) tails
  pub last : (tail : TailSpot) → HasTail program planes node tail → Reaches tails tail
  pub rising : AllPairs (λ tail other. tail.elem_size < other.elem_size) tails

-- how each structure of a program grows
pub record AreGrowths (program : Program) (planes : List Plane) (growths : List Growth) : Type 0 where
  pub all : length growths ≡ length program.structures
  pub each : (place : ℕ) (growth : Growth) → slice_get growths place ≡ Some growth → AreTails program planes (record { 0 = place }) growth.tails

-- the byte after the last element of these arrays, where there is room for so many in each; 0 where there are no arrays
abbrev pub end_of_tails : ℕ → List TailSpot → ℕ
end_of_tails capacity [] = 0
end_of_tails capacity (tail ∷ tails) = max (tail.offset + capacity * tail.elem_size) (end_of_tails capacity tails)
