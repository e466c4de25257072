-- What each field takes of its structure: whole bytes, or bits of a storage unit. All numbers are whole numbers without a limit.
use Rattle.std.specs.Prelude.{ℕ, ◌*◌, min, Option, Some, None, List, map, slice_get}
use Rattle.gt_types.specs.declared.limits.TheConstants.{TOO_LARGE}
use Rattle.gt_types.specs.declared.types.Width.TheVariants.{W1, W2, W4, W8}
use Rattle.gt_types.specs.declared.types.Scalar.{Scalar}
use Rattle.gt_types.specs.declared.types.Scalar.TheVariants as scalar
use Rattle.gt_types.specs.declared.types.Ty.{Ty}
use Rattle.gt_types.specs.declared.types.Ty.TheFolds.{fold-Ty}
use Rattle.gt_types.specs.declared.types.Ty.TheOpen as part
use Rattle.gt_types.specs.declared.types.Ty.TheOpen.{Ty-F}
use Rattle.gt_types.specs.declared.types.Ty.TheVariants as ty
use Rattle.gt_types.specs.declared.program.Field.{Field}
use Rattle.gt_layout.specs.declared.planes.Extent.{Extent}
use Rattle.gt_layout.specs.declared.planes.Plane.{Plane}
use Rattle.gt_layout.specs.declared.storages.Storage.{Storage}
use Rattle.gt_layout.specs.declared.storages.Storage.TheVariants.{Bytes, Bits}

-- the bytes of a number
abbrev pub bytes_of : Scalar → ℕ
bytes_of scalar.Bool = 1
bytes_of (scalar.Int W1 signed) = 1
bytes_of (scalar.Int W2 signed) = 2
bytes_of (scalar.Int W4 signed) = 4
bytes_of (scalar.Int W8 signed) = 8

abbrev pub extent : ℕ → ℕ → Extent
extent size align = record { size = size; align = align }

abbrev pub extent_of_plane : Option Plane → Extent
extent_of_plane (Some plane) = extent plane.size plane.align
extent_of_plane None = extent 0 1

-- size and alignment of a structure by value, which are those of its plane
abbrev pub extent_at : List Plane → ℕ → Extent
extent_at planes place = extent_of_plane (slice_get planes place)

abbrev pub extent_step : List Plane → Ty-F Extent → Extent
extent_step planes (part.Num number) = extent (bytes_of number) (bytes_of number)
extent_step planes (part.Bits unit count) = extent (bytes_of unit) (bytes_of unit)
extent_step planes (part.Opaque size align) = extent size align
extent_step planes (part.Str count) = extent 8 8
extent_step planes (part.Ptr target kind reorder) = extent 8 8
extent_step planes (part.Node node desc) = extent_at planes node.0
extent_step planes (part.Arr n elem) = extent (n * elem.size) elem.align
extent_step planes (part.Tail count elem) = extent 0 elem.align

-- Size and alignment of a type, from the planes of the structures by place. A number is aligned to its size, and a pointer or
-- string takes 8 bytes; an array takes the bytes of all its elements, and one at a structure's end none, with their alignment.
abbrev pub extent_of : List Plane → Ty → Extent
extent_of planes = fold-Ty Extent (extent_step planes)

-- what a field takes: bits of its unit, or the bytes of its type
abbrev pub storage_of : List Plane → Ty → Storage
storage_of planes (ty.Bits unit count) = Bits (bytes_of unit) count
storage_of planes type = Bytes (extent_of planes type)

-- what each field of a list takes
abbrev pub storages_of : List Plane → List Field → List Storage
storages_of planes fields = map (λ f. storage_of planes f.ty) fields

-- a size above the limit is held as one more than it
abbrev pub held_extent : Extent → Extent
held_extent e = extent (min e.size TOO_LARGE) e.align

abbrev pub held_storage : Storage → Storage
held_storage (Bytes e) = Bytes (held_extent e)
held_storage (Bits unit count) = Bits unit count
