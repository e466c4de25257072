-- What follows for all layouts.
use Rattle.std.specs.Prelude.{◌≡◌, ◌≤◌, ◌<◌, ℕ, ◌+◌, ◌*◌, ◌%◌, Bool, false, List, [], ◌∷◌, Some, slice_get}
use Rattle.gt_types.specs.declared.types.TypeId.{TypeId}
use Rattle.gt_types.specs.declared.program.Structure.{Structure}
use Rattle.gt_types.specs.declared.program.Program.{Program}
use Rattle.gt_layout.specs.declared.planes.FieldSpot.{FieldSpot}
use Rattle.gt_layout.specs.declared.planes.Growth.{Growth}
use Rattle.gt_layout.specs.declared.planes.Plane.{Plane}
use Rattle.gt_layout.specs.declared.planes.Layouts.{Layouts}
use Rattle.gt_layout.specs.declared.storages.Storage.{Storage}
use Rattle.gt_layout.specs.declared.storages.Storage.TheVariants.{Bytes, Bits}
use Rattle.gt_layout.specs.Storages.{storages_of}
use Rattle.gt_layout.specs.Places.{begin_at, end_at}
use Rattle.gt_layout.specs.Planes.{IsLaidOut, IsSize, root_storages}
use Rattle.gt_layout.specs.Growths.{end_of_tails}
use Rattle.gt_layout.specs.Capacity.{SizeAt}

-- each settled program has exactly one layout
abbrev pub HasOneLayout : Program → Type 0
HasOneLayout program = (layouts : Layouts) × IsLaidOut program layouts × ((other : Layouts) → IsLaidOut program other → other ≡ layouts)

-- an offset is a multiple of the alignment, and bits lie inside their unit
abbrev pub IsAligned : Storage → FieldSpot → Type 0
IsAligned (Bytes e) s = (s.offset % e.align ≡ 0) × (s.bit ≡ 0)
IsAligned (Bits unit count) s = (s.offset % unit ≡ 0) × (s.bit + count ≤ 8 * unit)

-- the field at a place takes this bit
abbrev pub Takes : List Storage → Plane → ℕ → ℕ → Type 0
Takes fields plane place bit = (f : Storage) × (s : FieldSpot) × (slice_get fields place ≡ Some f) × (slice_get plane.fields place ≡ Some s) × (begin_at s ≤ bit) × (bit < end_at f s)

-- what holds of the fields of a plane: each is aligned and ends inside; in a struct each begins where those before it have ended,
-- and no bit belongs to two of them
pub record ArePlaced (is_union : Bool) (fields : List Storage) (plane : Plane) : Type 0 where
  pub aligned : (place : ℕ) (f : Storage) (s : FieldSpot) → slice_get fields place ≡ Some f → slice_get plane.fields place ≡ Some s → IsAligned f s
  pub inside : (place : ℕ) (f : Storage) (s : FieldSpot) → slice_get fields place ≡ Some f → slice_get plane.fields place ≡ Some s → end_at f s ≤ 8 * plane.size
  pub ordered : is_union ≡ false → (place other : ℕ) (f g : Storage) (s t : FieldSpot) → place < other → slice_get fields place ≡ Some f → slice_get plane.fields place ≡ Some s
      → slice_get fields other ≡ Some g → slice_get plane.fields other ≡ Some t → end_at f s ≤ begin_at t
  pub apart : is_union ≡ false → (place other bit : ℕ) → Takes fields plane place bit → Takes fields plane other bit → place ≡ other

-- in the layouts of a program the fields of each structure and the roots are placed so
pub record PlacesHold (program : Program) (layouts : Layouts) : Type 0 where
  pub structures : (place : ℕ) (s : Structure) (plane : Plane) → slice_get program.structures place ≡ Some s → slice_get layouts.structures place ≡ Some plane
      → ArePlaced s.is_union (storages_of layouts.structures s.fields) plane
  pub statics : ArePlaced false (root_storages layouts.structures program.roots) layouts.statics

-- with room for elements at its end a structure takes the least size that holds both its plane and the last element of each array with
-- a length in it
abbrev pub SizesGrow : Program → Layouts → Type 0
SizesGrow program layouts = (node : TypeId) (plane : Plane) (growth : Growth) (capacity size : ℕ) → slice_get layouts.structures node.0 ≡ Some plane → slice_get layouts.growths node.0 ≡ Some growth
    → SizeAt program layouts.structures capacity node size → IsSize plane.align (8 * plane.size ∷ 8 * end_of_tails capacity growth.tails ∷ []) size
