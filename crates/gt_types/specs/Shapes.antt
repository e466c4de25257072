-- What a type is made of, by the type alone.
use Rattle.std.specs.Prelude.{ℕ, ◌+◌, Bool, true, false, not, ◌&&◌, ◌||◌, ◌==◌, nat_le, Option, Some, None}
use Rattle.gt_types.specs.declared.expressions.Expr.{Expr}
use Rattle.gt_types.specs.declared.limits.TheConstants.{MAX_BOUND, MAX_DIMENSIONS, TOO_LARGE}
use Rattle.gt_types.specs.declared.types.Width.TheVariants.{W1, W2, W4, W8}
use Rattle.gt_types.specs.declared.types.Scalar.{Scalar}
use Rattle.gt_types.specs.declared.types.Scalar.TheVariants as scalar
use Rattle.gt_types.specs.declared.types.Target.{Target}
use Rattle.gt_types.specs.declared.types.Target.TheVariants as target
use Rattle.gt_types.specs.declared.types.PtrKind.{PtrKind}
use Rattle.gt_types.specs.declared.types.PtrKind.TheVariants as kind
use Rattle.gt_types.specs.declared.types.Ty.{Ty, Tail', out-Ty}
use Rattle.gt_types.specs.declared.types.Ty.TheFolds.{fold-Ty}
use Rattle.gt_types.specs.declared.types.Ty.TheOpen as part
use Rattle.gt_types.specs.declared.types.Ty.TheOpen.{Ty-F}
use Rattle.gt_types.specs.declared.types.Ty.TheVariants as ty

-- ---- parts of a type

abbrev pub innermost_step : Ty-F Ty → Ty
innermost_step (part.Num scalar) = ty.Num scalar
innermost_step (part.Bits unit count) = ty.Bits unit count
innermost_step (part.Opaque size align) = ty.Opaque size align
innermost_step (part.Str count) = ty.Str count
innermost_step (part.Ptr target kind reorder) = ty.Ptr target kind reorder
innermost_step (part.Node node desc) = ty.Node node desc
innermost_step (part.Arr n elem) = elem
innermost_step (part.Tail count elem) = elem

-- what an array has as elements, through arrays of arrays; a type that is no array is its own
abbrev pub innermost : Ty → Ty
innermost = fold-Ty Ty innermost_step

abbrev pub dimensions_step : Ty-F ℕ → ℕ
dimensions_step (part.Arr n elem) = 1 + elem
dimensions_step (part.Tail count elem) = 1 + elem
dimensions_step type = 0

-- how many dimensions an array has; another type has none
abbrev pub dimensions : Ty → ℕ
dimensions = fold-Ty ℕ dimensions_step

-- the expression of a type that says how many elements or characters there are
abbrev pub count_of : Ty → Option Expr
count_of (ty.Str (Some count)) = Some count
count_of (ty.Ptr target (kind.Length count) reorder) = Some count
count_of (Tail' count shape elem) = Some count
count_of type = None

-- ---- kinds of types

-- a number or a bit-field
abbrev pub is_number : Ty → Bool
is_number (ty.Num scalar) = true
is_number (ty.Bits unit count) = true
is_number type = false

-- what a field is that is not scanned: a number, a bit-field, or bytes
abbrev pub is_unscanned : Ty → Bool
is_unscanned (ty.Num scalar) = true
is_unscanned (ty.Bits unit count) = true
is_unscanned (ty.Opaque size align) = true
is_unscanned type = false

-- a pointer to a block, or a string
abbrev pub is_pointer : Ty → Bool
is_pointer (ty.Str count) = true
is_pointer (ty.Ptr target kind reorder) = true
is_pointer type = false

-- a pointer to a single structure
abbrev pub is_plain_pointer : Ty → Bool
is_plain_pointer (ty.Ptr (Some (target.Node node)) kind.Plain reorder) = true
is_plain_pointer type = false

-- a structure by value, and no array of them
abbrev pub is_structure : Ty → Bool
is_structure (ty.Node node desc) = true
is_structure type = false

-- an array with a length
abbrev pub is_tail : Ty → Bool
is_tail (Tail' count shape elem) = true
is_tail type = false

-- ---- types that a header can give

-- a dimension has from 1 to 1,048,576 elements
abbrev pub is_bound : ℕ → Bool
is_bound n = nat_le 1 n && nat_le n MAX_BOUND

-- the bits of a unit, as many as a bit-field of it may have
abbrev pub bits_of : Scalar → ℕ
bits_of scalar.Bool = 1
bits_of (scalar.Int W1 signed) = 8
bits_of (scalar.Int W2 signed) = 16
bits_of (scalar.Int W4 signed) = 32
bits_of (scalar.Int W8 signed) = 64

-- bytes that are never scanned: at least one, every greater size held as one size, aligned as a number is
abbrev pub is_opaque : ℕ → ℕ → Bool
is_opaque size align = nat_le 1 size && nat_le size TOO_LARGE && ((align == 1) || (align == 2) || (align == 4) || (align == 8))

-- A pointer leads to one structure; or to as many structures, pointers or strings as its length says; or to a block that is
-- never scanned or a structure that is not defined, and then it has no target. One to a single structure or to pointers may
-- be sorted in an image.
abbrev pub has_target : Option Target → PtrKind → Bool → Bool
has_target (Some (target.Node node)) kind.Plain reorder = true
has_target (Some (target.Node node)) (kind.Length count) reorder = not reorder
has_target (Some (target.Pointers node)) (kind.Length count) reorder = true
has_target (Some target.Strings) (kind.Length count) reorder = not reorder
has_target None kind.Atomic reorder = not reorder
has_target None kind.Undef reorder = not reorder
has_target target kind reorder = false

abbrev pub is_element_step : Ty-F Bool → Bool
is_element_step (part.Num scalar) = true
is_element_step (part.Str None) = true
is_element_step (part.Ptr (Some (target.Node node)) kind.Plain false) = true
is_element_step (part.Node node desc) = true
is_element_step (part.Arr n elem) = is_bound n && elem
is_element_step type = false

-- an element of an array: a number, a string, a pointer to a single structure, a structure, or an array of elements
abbrev pub is_element : Ty → Bool
is_element = fold-Ty Bool is_element_step

-- elements in at most so many dimensions that there may be one more around them
abbrev pub may_repeat : Ty → Bool
may_repeat elem = is_element elem && nat_le (1 + dimensions elem) MAX_DIMENSIONS

abbrev pub field_type_at : Ty-F Ty → Bool
field_type_at (part.Num scalar) = true
field_type_at (part.Bits unit count) = nat_le 1 count && nat_le count (bits_of unit)
field_type_at (part.Opaque size align) = is_opaque size align
field_type_at (part.Str count) = true
field_type_at (part.Ptr target kind reorder) = has_target target kind reorder
field_type_at (part.Node node desc) = true
field_type_at (part.Arr n elem) = is_bound n && may_repeat elem
field_type_at (part.Tail count elem) = may_repeat elem

-- the type of a field
abbrev pub is_field_type : Ty → Bool
is_field_type type = field_type_at (out-Ty type)

abbrev pub root_type_at : Ty-F Ty → Bool
root_type_at (part.Num scalar) = true
root_type_at (part.Str None) = true
root_type_at (part.Ptr target kind.Undef reorder) = false
root_type_at (part.Ptr target kind reorder) = has_target target kind reorder
root_type_at (part.Node node desc) = true
root_type_at (part.Arr n elem) = is_bound n && may_repeat elem
root_type_at type = false

-- the type of a root: that of a field, but no bit-field, no opaque bytes and no array with a length, no string with a length,
-- and no pointer to a structure that is not defined
abbrev pub is_root_type : Ty → Bool
is_root_type type = root_type_at (out-Ty type)
