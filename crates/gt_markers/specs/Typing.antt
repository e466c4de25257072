-- The types of fields and roots, by their options.
use Rattle.std.specs.Prelude.{ℕ, pos, ◌*◌, min, true, false, ◌&&◌, not, if◌then◌else◌, codes, List, [], ◌∷◌, Option, Some, None, option_map, slice_get}
use Rattle.std.specs.Option.{option_map_or}
use Rattle.gt_types.specs.declared.limits.TheConstants.{TOO_LARGE}
use Rattle.gt_types.specs.declared.expressions.Expr.{Expr}
use Rattle.gt_types.specs.declared.types.Target.TheVariants as target
use Rattle.gt_types.specs.declared.types.PtrKind.{PtrKind}
use Rattle.gt_types.specs.declared.types.PtrKind.TheVariants as kind
use Rattle.gt_types.specs.declared.types.Ty.{Ty}
use Rattle.gt_types.specs.declared.types.Ty.TheVariants as ty
use Rattle.gt_types.specs.declared.types.TypeId.{TypeId}
use Rattle.gt_items.specs.declared.items.RawOption.{RawOption}
use Rattle.gt_items.specs.declared.items.Stars.{Stars}
use Rattle.gt_items.specs.declared.items.Stars.TheVariants.{One, Two}
use Rattle.gt_layout.specs.declared.planes.Extent.{Extent}
use Rattle.gt_layout.specs.declared.planes.Plane.{Plane}
use Rattle.gt_layout.specs.Storages.{extent, extent_at, bytes_of}
use Rattle.gt_drafts.specs.declared.types.Amount.{Amount}
use Rattle.gt_drafts.specs.declared.types.Amount.TheVariants.{Is}
use Rattle.gt_drafts.specs.declared.types.BaseType.{BaseType}
use Rattle.gt_drafts.specs.declared.types.BaseType.TheVariants.{Number, Float, Double, Structure, Undefined}
use Rattle.gt_drafts.specs.declared.types.DeclaredType.{DeclaredType}
use Rattle.gt_drafts.specs.declared.draft.DraftStructure.{DraftStructure}
use Rattle.gt_drafts.specs.Options.{has_option, has_skip}
use Rattle.gt_drafts.specs.Undefined.{is_zero}
use Rattle.gt_markers.specs.declared.type_options.TypeOptions.{TypeOptions}
use Rattle.gt_markers.specs.Options.{option_named}
use Rattle.gt_drafts.specs.declared.draft.Draft.{Draft}
use Rattle.gt_markers.specs.Expressions.{Names, constants, expression_of}

-- ---- what options say

-- the expression of an option, where it stands there
abbrev pub expression_named : Names → List ℕ → List RawOption → Option Expr
expression_named names name options = option_map (λ o. expression_of names o.parameter) (option_named name options)

-- what the options of a field or a root say of its type
abbrev pub says : Names → List RawOption → TypeOptions
says names options =
    record {
      length = expression_named names (codes "length") options;
      string_length = expression_named names (codes "string_length") options;
      desc = expression_named names (codes "desc") options;
      atomic = has_option (codes "atomic") options;
      maybe_undef = has_option (codes "maybe_undef") options;
      reorder = has_option (codes "reorder") options;
    }

-- of the elements of an array the options say no more than the `desc`
abbrev pub of_elements : TypeOptions → TypeOptions
of_elements o = record { length = None; string_length = None; desc = o.desc; atomic = false; maybe_undef = false; reorder = false }

-- ---- the desc of a union

abbrev pub first_some : Option Expr → Option Expr → Option Expr
first_some (Some e) other = Some e
first_some None other = other

-- the `desc` of a union's own marker; a struct has none
abbrev pub own_desc : Draft → DraftStructure → Option Expr
own_desc draft s = if s.is_union then expression_named (constants draft) (codes "desc") s.options else None

-- a structure by value is read with the `desc` of its field or root, or else with its own; a struct has none
abbrev pub used_desc : Draft → DraftStructure → Option Expr → Option Expr
used_desc draft s given = if s.is_union then first_some given (own_desc draft s) else None

abbrev pub desc_at : Draft → ℕ → Option Expr → Option Expr
desc_at draft id given = option_map_or (λ s. used_desc draft s given) (slice_get draft.structures id) None

-- ---- types that are walked

abbrev pub node : ℕ → TypeId
node id = record { 0 = id }

-- a pointer with `length` names as many elements, another a single one
abbrev pub kind_by : Option Expr → PtrKind
kind_by (Some count) = kind.Length count
kind_by None = kind.Plain

-- One star on a structure is a pointer to it, or to as many as `length` says; two stars on one, or on characters, need `length`; one
-- star on characters is a string; a pointer to what is not defined needs `maybe_undef`. No other pointer can be walked.
abbrev pub pointer_type : TypeOptions → BaseType → Stars → Option Ty
pointer_type o (Structure id) One = Some (ty.Ptr (Some (target.Node (node id))) (kind_by o.length) o.reorder)
pointer_type o (Structure id) Two = option_map (λ count. ty.Ptr (Some (target.Pointers (node id))) (kind.Length count) o.reorder) o.length
pointer_type o (Number scalar true) One = Some (ty.Str o.string_length)
pointer_type o (Number scalar true) Two = option_map (λ count. ty.Ptr (Some target.Strings) (kind.Length count) o.reorder) o.length
pointer_type o (Undefined keyword tag) One = if o.maybe_undef then Some (ty.Ptr None kind.Undef o.reorder) else None
pointer_type o base stars = None

-- a number, or a structure by value
abbrev pub value_type : Draft → TypeOptions → BaseType → Option Ty
value_type draft o (Number scalar is_char) = Some (ty.Num scalar)
value_type draft o (Structure id) = Some (ty.Node (node id) (desc_at draft id o.desc))
value_type draft o base = None

-- a pointer with `atomic` names a block that is never scanned, whatever it points to
abbrev pub pointer_or_atomic : TypeOptions → BaseType → Stars → Option Ty
pointer_or_atomic o base stars = if o.atomic then Some (ty.Ptr None kind.Atomic o.reorder) else pointer_type o base stars

-- what is no array: none where it can be no part of a walked value
abbrev pub single_type : Draft → TypeOptions → DeclaredType → Option Ty
single_type draft o t =
    if t.is_function then None
    else (if is_zero t.resolved.stars then value_type draft o t.resolved.base else pointer_or_atomic o t.resolved.base t.resolved.stars)

-- how many elements, or bits, there are; what resolves has a number wherever one is read
abbrev pub amount : Amount → ℕ
amount (Is (pos n)) = n
amount a = 0

-- arrays of elements, the outermost dimension first
abbrev pub arrays : List Amount → Ty → Ty
arrays [] elem = elem
arrays (bound ∷ bounds) elem = ty.Arr (amount bound) (arrays bounds elem)

-- an array; with `length` its outermost dimension has as many elements as this says
abbrev pub array_type : Option Expr → Amount → List Amount → Ty → Ty
array_type (Some count) bound bounds elem = ty.Tail count (arrays bounds elem)
array_type None bound bounds elem = ty.Arr (amount bound) (arrays bounds elem)

-- a bit-field of a number
abbrev pub bits_type : BaseType → ℕ → Option Ty
bits_type (Number scalar is_char) count = Some (ty.Bits scalar count)
bits_type base count = None

-- the type of what is walked
abbrev pub walked_by : Draft → TypeOptions → DeclaredType → Option Amount → List Amount → Option Ty
walked_by draft o t (Some count) bounds = bits_type t.resolved.base (amount count)
walked_by draft o t None [] = single_type draft o t
walked_by draft o t None (bound ∷ bounds) = option_map (array_type o.length bound bounds) (single_type draft (of_elements o) t)

abbrev pub walked_type : Draft → TypeOptions → DeclaredType → Option Ty
walked_type draft o t = walked_by draft o t t.bits t.bounds

-- ---- types with `skip`

-- the bytes of a pointer
abbrev pub pointer_extent : Extent
pointer_extent = extent 8 8

-- size and alignment of a base, from the planes of the structures; what resolves has one
abbrev pub base_extent : List Plane → BaseType → Extent
base_extent planes (Number scalar is_char) = extent (bytes_of scalar) (bytes_of scalar)
base_extent planes Float = extent 4 4
base_extent planes Double = pointer_extent
base_extent planes (Structure id) = extent_at planes id
base_extent planes base = extent 0 1

abbrev pub single_extent : List Plane → DeclaredType → Extent
single_extent planes t = if t.is_function then pointer_extent else (if is_zero t.resolved.stars then base_extent planes t.resolved.base else pointer_extent)

-- how many elements an array of arrays has
abbrev pub elements : List Amount → ℕ
elements [] = 1
elements (bound ∷ bounds) = amount bound * elements bounds

-- bytes that are never scanned, as many as all elements take; a size above the limit is held as one more than the limit
abbrev pub opaque_type : List Plane → DeclaredType → Ty
opaque_type planes t = ty.Opaque (min (elements t.bounds * (single_extent planes t).size) TOO_LARGE) (single_extent planes t).align

abbrev pub skipped_single : List Plane → DeclaredType → BaseType → Ty
skipped_single planes t (Number scalar is_char) = if is_zero t.resolved.stars && not t.is_function then ty.Num scalar else opaque_type planes t
skipped_single planes t base = opaque_type planes t

abbrev pub or_opaque : List Plane → DeclaredType → Option Ty → Ty
or_opaque planes t (Some type) = type
or_opaque planes t None = opaque_type planes t

-- a field with `skip` is an ordinary number or bit-field where it is one, and else bytes that are never scanned
abbrev pub skipped_by : List Plane → DeclaredType → Option Amount → List Amount → Ty
skipped_by planes t (Some count) bounds = or_opaque planes t (bits_type t.resolved.base (amount count))
skipped_by planes t None [] = skipped_single planes t t.resolved.base
skipped_by planes t None (bound ∷ bounds) = opaque_type planes t

abbrev pub skipped_type : List Plane → DeclaredType → Ty
skipped_type planes t = skipped_by planes t t.bits t.bounds

-- ---- the type of a field or a root

-- The type that options give; none where neither `skip` stands there nor the type can be walked. These are the planes of the
-- structures of the program.
abbrev pub type_by : Names → Draft → List Plane → List RawOption → DeclaredType → Option Ty
type_by names draft planes options t =
    if has_skip options then Some (skipped_type planes t) else walked_type draft (says names options) t

-- one element of an array, as bytes that are never scanned
abbrev pub opaque_element : List Plane → DeclaredType → Ty
opaque_element planes t = ty.Opaque (min (single_extent planes t).size TOO_LARGE) (single_extent planes t).align

-- A type that is a fault counts as bytes that are never scanned. An array with `length` is one also then, and its elements are such bytes.
abbrev pub faulty_by : List Plane → DeclaredType → Option Expr → Option Amount → List Amount → Ty
faulty_by planes t (Some count) None (bound ∷ bounds) = array_type (Some count) bound bounds (opaque_element planes t)
faulty_by planes t length bits bounds = opaque_type planes t

abbrev pub or_faulty : List Plane → DeclaredType → Option Expr → Option Ty → Ty
or_faulty planes t length (Some type) = type
or_faulty planes t length None = faulty_by planes t length t.bits t.bounds

-- the type that is declared, by the options
abbrev pub declared_type : Names → Draft → List Plane → List RawOption → DeclaredType → Ty
declared_type names draft planes options t = or_faulty planes t (expression_named names (codes "length") options) (type_by names draft planes options t)
