-- No promise: what the proofs of laying out one structure after another need.
use Rattle.std.specs.Prelude.{◌≡◌, ◌≢◌, ◌≤◌, ◌<◌, ◌⊎◌, ℕ, ◌+◌, ◌-◌, ◌*◌, ◌/◌, Bool, true, false, Option, Some, List, [], ◌∷◌, length, slice_get, slice_index, All, IsTrue, max, nat_lt, take, option_map}
use Rattle.gt_types.specs.declared.types.TypeId.{TypeId}
use Rattle.gt_types.specs.declared.program.Program.{Program}
use Rattle.gt_types.specs.declared.types.Ty.{Ty}
use Rattle.gt_types.specs.Contains.{Nests, held_by}
use Rattle.gt_types.specs.Tails.{tail_of}
use Rattle.gt_layout.specs.declared.planes.Plane.{Plane}
use Rattle.gt_layout.specs.declared.planes.FieldSpot.{FieldSpot}
use Rattle.gt_layout.specs.declared.storages.Storage.{Storage}
use Rattle.gt_layout.specs.Storages.{extent_of, held_extent}
use Rattle.gt_layout.specs.Places.{LiesAfter}
use Rattle.gt_types.specs.declared.program.Structure.{Structure}
use Rattle.gt_types.specs.declared.program.Root.{Root}
use Rattle.gt_layout.specs.declared.planes.TheConstants.{MAX_SIZE}
use Rattle.gt_layout.specs.declared.layouts.Statics.{Statics}
use Rattle.gt_layout.specs.declared.layouts.Statics.TheVariants.{Within, Beyond}
use Rattle.gt_layout.specs.Places.{ends, last_offset}
use Rattle.gt_layout.specs.Planes.{AreLaidOut, IsPlaneOf, root_storages, held, is_alignment}
use Rattle.gt_layout.specs.Excess.{HasLargeElement, IsFirst}
use Rattle.gt_layout.specs.declared.planes.Growth.{Growth}
use Rattle.gt_layout.specs.declared.planes.TailSpot.{TailSpot}
use Rattle.gt_layout.specs.Growths.{AreTails, tail_spot}

-- the structure at a place is laid out
abbrev pub IsLaid : List Plane → ℕ → Type 0
IsLaid known place = (plane : Plane) × (slice_get known place ≡ Some plane) × (plane.align ≢ 0)

-- what is laid out has an alignment of numbers
abbrev pub AreSound : List Plane → Type 0
AreSound known = All (λ plane. (plane.align ≡ 0) ⊎ IsTrue (is_alignment plane.align)) known

-- what is laid out is held of these planes
abbrev pub Holds : List Plane → List Plane → Type 0
Holds planes known = (place : ℕ) (k plane : Plane) → slice_get known place ≡ Some k → slice_get planes place ≡ Some plane → (k.align ≡ 0) ⊎ (k ≡ held plane)

-- more is laid out than before
pub record Grows (program : Program) (before now : List Plane) : Type 0 where
  pub all : length now ≡ length before
  pub kept : (place : ℕ) → IsLaid before place → IsLaid now place
  pub sound : AreSound before → AreSound now
  pub holds : (planes : List Plane) → AreLaidOut program planes → Holds planes before → Holds planes now

-- structures stand inside this one at most so deep
abbrev pub IsWithinDepth : Program → ℕ → ℕ → Type 0
IsWithinDepth program place depth = (n : ℕ) (inner : TypeId) → Nests program n (record { 0 = place }) inner → n ≤ depth

-- what a type holds by value is in the program, and structures stand inside it less deep
abbrev pub HoldsWithinDepth : Program → Ty → ℕ → Type 0
HoldsWithinDepth program type depth = (node : TypeId) → held_by type ≡ Some node → (node.0 < length program.structures) × (1 ≤ depth) × IsWithinDepth program node.0 (depth - 1)

-- what a type holds by value is laid out
abbrev pub IsHeldLaid : List Plane → Ty → Type 0
IsHeldLaid known type = (node : TypeId) → held_by type ≡ Some node → IsLaid known node.0

-- what is held of the planes of a program
pub record AreHeldPlanes (program : Program) (known : List Plane) : Type 0 where
  pub all : length known ≡ length program.structures
  pub sound : (place : ℕ) (plane : Plane) → slice_get known place ≡ Some plane → IsTrue (is_alignment plane.align)
  pub held : (planes : List Plane) → AreLaidOut program planes → (place : ℕ) (k plane : Plane) → slice_get known place ≡ Some k → slice_get planes place ≡ Some plane → k ≡ held plane

-- the plane of fields that were placed: the bit after the last one, their alignment, and their places
abbrev pub finished : ℕ → ℕ → List FieldSpot → Plane
finished end align spots = record { size = ((end + 7) / 8 + align - 1) / align * align; align = align; fields = spots }

-- where a field begins in a union, or in a struct after the fields that end at `from`
abbrev pub Starts : Bool → ℕ → Storage → ℕ → Type 0
Starts true from f begin = begin ≡ 0
Starts false from f begin = LiesAfter from f begin

-- ---- what is too large of what is held

-- a structure is too large without its tail elements, or one of them is
abbrev pub IsLarge : List Plane → Structure → Plane → Type 0
IsLarge known s plane = (MAX_SIZE < plane.size) ⊎ HasLargeElement known s

-- the structure at a place is so
abbrev pub IsLargeAt : Program → List Plane → ℕ → Type 0
IsLargeAt program known place = (s : Structure) × (plane : Plane) × (slice_get program.structures place ≡ Some s) × (slice_get known place ≡ Some plane) × IsLarge known s plane

-- a root ends beyond the limit, where the static record has this plane
abbrev pub IsBeyondAt : List Plane → List Root → Plane → ℕ → Type 0
IsBeyondAt known roots plane place = 8 * MAX_SIZE < slice_index (ends (root_storages known roots) plane.fields) place

-- what laying out the roots answers: the plane of the static record within the limit, or the first root that ends beyond it
pub record IsWithinRecord (known : List Plane) (roots : List Root) (result : Plane) : Type 0 where
  pub is : IsPlaneOf false (root_storages known roots) result
  pub within : result.size ≤ MAX_SIZE

pub record IsBeyondRecord (known : List Plane) (roots : List Root) (root : ℕ) : Type 0 where
  pub plane : Plane
  pub is : IsPlaneOf false (root_storages known roots) plane
  pub first : IsFirst (IsBeyondAt known roots plane) (Some root)

abbrev pub IsStatics : List Plane → List Root → Statics → Type 0
IsStatics known roots (Within plane) = IsWithinRecord known roots plane
IsStatics known roots (Beyond root) = IsBeyondRecord known roots root

-- ---- how structures grow

abbrev pub cond_tail : Bool → Bool → List TailSpot → List TailSpot → List TailSpot → List TailSpot
cond_tail true later before after same = before
cond_tail false true before after same = after
cond_tail false false before after same = same

-- one array with a length more: where there are arrays of such elements already, the last of them counts
abbrev pub with_tail : TailSpot → List TailSpot → List TailSpot
with_tail tail [] = tail ∷ []
with_tail tail (other ∷ tails) = cond_tail (nat_lt tail.elem_size other.elem_size) (nat_lt other.elem_size tail.elem_size) (tail ∷ other ∷ tails)
    (other ∷ with_tail tail tails) (tail_spot (max other.offset tail.offset) other.elem_size ∷ tails)

abbrev pub with_tails : List TailSpot → List TailSpot → List TailSpot
with_tails [] known = known
with_tails (tail ∷ tails) known = with_tails tails (with_tail tail known)

-- the array with a length at the end of a struct, with the size of its elements held within the limit
abbrev pub own_tail : List Plane → Structure → Plane → Option TailSpot
own_tail planes s plane = option_map (λ elem. tail_spot (last_offset plane.fields) (held_extent (extent_of planes elem)).size) (tail_of s.fields)

abbrev pub type_id : ℕ → TypeId
type_id place = record { 0 = place }

-- the first of these arrays whose elements are not smaller
pub record IsPlaceOf (elem_size : ℕ) (tails : List TailSpot) (place : ℕ) : Type 0 where
  pub inside : place ≤ length tails
  pub before : All (λ tail. tail.elem_size < elem_size) (take place tails)
  pub here : (tail : TailSpot) → slice_get tails place ≡ Some tail → elem_size ≤ tail.elem_size

-- how a structure grows was found
abbrev pub IsFound : List (Option Growth) → ℕ → Type 0
IsFound known place = (growth : Growth) × (slice_get known place ≡ Some (Some growth))

-- what was found is right
abbrev pub AreFound : Program → List Plane → List (Option Growth) → Type 0
AreFound program planes known = (place : ℕ) (growth : Growth) → slice_get known place ≡ Some (Some growth) → AreTails program planes (type_id place) growth.tails

-- what was found before is found now
pub record KeepsFound (before now : List (Option Growth)) : Type 0 where
  pub all : length now ≡ length before
  pub kept : (place : ℕ) → IsFound before place → IsFound now place
