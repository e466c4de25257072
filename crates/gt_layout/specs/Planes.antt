-- The layout of a structure, and of a program.
use Rattle.std.specs.Prelude.{◌≡◌, ◌≤◌, ℕ, ◌*◌, ◌%◌, ◌==◌, ◌||◌, ◌&&◌, max, cond, nat_le, Bool, false, List, [], ◌∷◌, map, length, Some, slice_get, All}
use Rattle.gt_types.specs.declared.limits.TheConstants.{TOO_LARGE}
use Rattle.gt_types.specs.declared.program.Structure.{Structure}
use Rattle.gt_types.specs.declared.program.Root.{Root}
use Rattle.gt_types.specs.declared.program.Program.{Program}
use Rattle.gt_fields.specs.FieldNames.{field_names}
use Rattle.gt_unions.specs.Tables.{union_tables}
use Rattle.gt_layout.specs.declared.planes.TheConstants.{MAX_SIZE}
use Rattle.gt_layout.specs.declared.planes.Plane.{Plane}
use Rattle.gt_layout.specs.declared.planes.Layouts.{Layouts}
use Rattle.gt_layout.specs.declared.storages.Storage.{Storage}
use Rattle.gt_layout.specs.declared.storages.Storage.TheVariants.{Bytes, Bits}
use Rattle.gt_layout.specs.Storages.{storage_of, storages_of}
use Rattle.gt_layout.specs.Places.{Lie, ends, align_of}
use Rattle.gt_layout.specs.Growths.{AreGrowths}

-- the greatest of numbers, and at least 1
abbrev pub greatest : List ℕ → ℕ
greatest [] = 1
greatest (n ∷ ns) = max n (greatest ns)

-- a size is a multiple of the alignment, and all ends lie inside
pub record HasRoom (align : ℕ) (ends : List ℕ) (size : ℕ) : Type 0 where
  pub whole : size % align ≡ 0
  pub inside : All (λ end. end ≤ 8 * size) ends

-- the size of a structure is the least such one
pub record IsSize (align : ℕ) (ends : List ℕ) (size : ℕ) : Type 0 where
  pub room : HasRoom align ends size
  pub least : (other : ℕ) → HasRoom align ends other → size ≤ other

-- the plane of a union, where `true` is given, or of a struct: where its fields lie, their greatest alignment, and its size
pub record IsPlaneOf (is_union : Bool) (fields : List Storage) (plane : Plane) : Type 0 where
  pub places : Lie is_union fields plane.fields
  pub align : plane.align ≡ greatest (map align_of fields)
  pub size : IsSize plane.align (ends fields plane.fields) plane.size

-- the plane of a structure, from the planes of the structures that it holds by value
abbrev pub IsPlane : List Plane → Structure → Plane → Type 0
IsPlane planes s plane = IsPlaneOf s.is_union (storages_of planes s.fields) plane

-- the planes of a program, one for each structure; a structure by value has its size and alignment by the same list
pub record AreLaidOut (program : Program) (planes : List Plane) : Type 0 where
  pub all : length planes ≡ length program.structures
  pub each : (place : ℕ) (s : Structure) (plane : Plane) → slice_get program.structures place ≡ Some s → slice_get planes place ≡ Some plane → IsPlane planes s plane

-- what the roots take, of which the static record is the struct
abbrev pub root_storages : List Plane → List Root → List Storage
root_storages planes roots = map (λ r. storage_of planes r.ty) roots

-- the layouts of a program: its planes, that of the static record, the names of its fields, the tables of its unions, and how each structure grows
pub record IsLaidOut (program : Program) (layouts : Layouts) : Type 0 where
  pub structures : AreLaidOut program layouts.structures
  pub statics : IsPlaneOf false (root_storages layouts.structures program.roots) layouts.statics
  pub names : layouts.names ≡ field_names program.structures
  pub unions : layouts.unions ≡ union_tables program
  pub growths : AreGrowths program layouts.structures layouts.growths

-- ---- how planes are held in 32 bits

-- a plane whose size is above the limit is held with one more than the limit, its alignment and no places
abbrev pub held : Plane → Plane
held plane = cond (nat_le plane.size MAX_SIZE) plane (record { size = TOO_LARGE; align = plane.align; fields = [] })

-- what is held for a structure, from what is held for those inside it
pub record IsHeldPlane (known : List Plane) (s : Structure) (result : Plane) : Type 0 where
  pub plane : Plane
  pub ideal : IsPlane known s plane
  pub same : result ≡ held plane

-- the alignments that types have
abbrev pub is_alignment : ℕ → Bool
is_alignment n = (n == 1) || (n == 2) || (n == 4) || (n == 8)

-- a field can be placed: its alignment is one of these, and its bits, one at least, are no more than those of their unit
abbrev pub is_placeable : Storage → Bool
is_placeable (Bytes e) = is_alignment e.align
is_placeable (Bits unit count) = is_alignment unit && nat_le 1 count && nat_le count (8 * unit)
