-- What of a program is too large.
use Rattle.std.specs.Prelude.{◌≡◌, ◌≢◌, ◌≤◌, ◌<◌, ◌⊎◌, ℕ, ◌*◌, Option, Some, None, List, slice_get, slice_index}
use Rattle.gt_types.specs.declared.types.Ty.{Ty}
use Rattle.gt_types.specs.declared.program.Structure.{Structure}
use Rattle.gt_types.specs.declared.program.Program.{Program}
use Rattle.gt_types.specs.Tails.{tail_of}
use Rattle.gt_layout.specs.declared.planes.TheConstants.{MAX_SIZE}
use Rattle.gt_layout.specs.declared.planes.Plane.{Plane}
use Rattle.gt_layout.specs.declared.planes.Layouts.{Layouts}
use Rattle.gt_layout.specs.declared.planes.LayoutStop.{LayoutStop}
use Rattle.gt_layout.specs.declared.planes.LayoutStop.TheVariants.{Memory, TooLarge}
use Rattle.gt_layout.specs.Storages.{extent_of}
use Rattle.gt_layout.specs.Places.{ends}
use Rattle.gt_layout.specs.Planes.{IsLaidOut, root_storages}

-- one element of the array at a structure's end is too large
abbrev pub HasLargeElement : List Plane → Structure → Type 0
HasLargeElement planes s = (elem : Ty) × (tail_of s.fields ≡ Some elem) × (MAX_SIZE < (extent_of planes elem).size)

-- a structure is too large without its tail elements, or one of them is
abbrev pub IsTooLarge : Program → List Plane → ℕ → Type 0
IsTooLarge program planes place = (s : Structure) × (plane : Plane) × (slice_get program.structures place ≡ Some s) × (slice_get planes place ≡ Some plane)
    × ((MAX_SIZE < plane.size) ⊎ HasLargeElement planes s)

-- a root ends beyond the limit of the static record
abbrev pub IsBeyond : Program → Layouts → ℕ → Type 0
IsBeyond program layouts place = 8 * MAX_SIZE < slice_index (ends (root_storages layouts.structures program.roots) layouts.statics.fields) place

-- the first number of which something holds, or none where it holds of no number
abbrev pub IsFirst : (ℕ → Type 0) → Option ℕ → Type 0
IsFirst holds (Some place) = holds place × ((other : ℕ) → other < place → ¬ holds other)
IsFirst holds None = (place : ℕ) → ¬ holds place

-- nothing is too large
pub record IsWithin (program : Program) (layouts : Layouts) : Type 0 where
  pub structures : (place : ℕ) → ¬ IsTooLarge program layouts.structures place
  pub statics : layouts.statics.size ≤ MAX_SIZE

-- the layouts of a program that is too large, with its first structure that is so, and its first root that ends beyond the limit
pub record Exceeds (program : Program) (structure : Option ℕ) (root : Option ℕ) : Type 0 where
  pub layouts : Layouts
  pub laid_out : IsLaidOut program layouts
  pub first_structure : IsFirst (IsTooLarge program layouts.structures) structure
  pub first_root : IsFirst (IsBeyond program layouts) root
  pub some : (structure ≢ None) ⊎ (root ≢ None)

-- why a program is not laid out: out of memory, or exactly because it is too large
abbrev pub IsStop : Program → LayoutStop → Type 0
IsStop program Memory = Unit {0}
IsStop program (TooLarge structure root) = Exceeds program structure root
