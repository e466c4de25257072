-- The faults of names and types.
use Rattle.std.specs.Prelude.{ℕ, suc, pos, int_le, Bool, true, false, ◌&&◌, ◌||◌, not, nat_lt, nat_le, if◌then◌else◌, List, [], ◌∷◌, ◌++◌, length, Option, Some, None}
use Rattle.std.specs.Option.{option_map_or}
use Rattle.std.specs.List.{list_any}
use Rattle.std.specs.Ordering.{int_eq}
use Rattle.std.specs.Str.{bytes_eq}
use Rattle.gt_types.specs.declared.faults.Fault.{Fault}
use Rattle.gt_items.specs.declared.items.RawOption.{RawOption}
use Rattle.gt_items.specs.declared.items.Stars.TheVariants.{Zero}
use Rattle.gt_resolve.specs.declared.TheConstants.{REDEFINED, UNDEFINED, BY_VALUE_CYCLE, BAD_BOUND, TOO_MANY}
use Rattle.gt_types.specs.declared.limits.TheConstants.{MAX_STRUCTURES, MAX_FIELDS, MAX_ROOTS, MAX_CACHES, MAX_DIMENSIONS, MAX_BOUND}
use Rattle.gt_types.specs.Shapes.{bits_of}
use Rattle.gt_drafts.specs.declared.types.Amount.{Amount}
use Rattle.gt_drafts.specs.declared.types.Amount.TheVariants as amount
use Rattle.gt_drafts.specs.declared.types.BaseType.{BaseType}
use Rattle.gt_drafts.specs.declared.types.BaseType.TheVariants.{Number}
use Rattle.gt_drafts.specs.declared.types.DeclaredType.{DeclaredType}
use Rattle.gt_drafts.specs.declared.types.Resolved.{Resolved}
use Rattle.gt_scope.specs.declared.declaration.Declaration.{Declaration}
use Rattle.gt_scope.specs.declared.declaration.What.{What}
use Rattle.gt_scope.specs.declared.declaration.What.TheVariants as what
use Rattle.gt_scope.specs.declared.meaning.TypedefMeaning.{TypedefMeaning}
use Rattle.gt_drafts.specs.declared.draft.Draft.{Draft}
use Rattle.gt_drafts.specs.declared.draft.DraftCache.{DraftCache}
use Rattle.gt_drafts.specs.declared.draft.DraftField.{DraftField}
use Rattle.gt_drafts.specs.declared.draft.DraftRoot.{DraftRoot}
use Rattle.gt_drafts.specs.declared.draft.DraftStructure.{DraftStructure}
use Rattle.gt_scope.specs.Meanings.{means_after, resolved_type}
use Rattle.gt_drafts.specs.Options.{has_skip}
use Rattle.gt_drafts.specs.Shapes.{has_flag, held_type, is_nil}
use Rattle.gt_drafts.specs.FirstFaults.{fault_if}
use Rattle.gt_drafts.specs.Sameness.{same_bool, same_type}
use Rattle.gt_drafts.specs.Undefined.{is_undefined_type, is_nothing, is_zero}

-- ---- 11: a second definition with another meaning

-- a tag, in the one space of names; other names are in the other
abbrev pub is_tag : What → Bool
is_tag (what.Structure is_union id) = true
is_tag (what.Enum is_signed) = true
is_tag w = false

-- Two definitions of one name may stand beside one another: enums of one sign, constants of one value, typedefs of one meaning.
unfoldable pub agree : List Declaration → List TypedefMeaning → What → What → Bool
agree ds types (what.Enum a) (what.Enum b) = same_bool a b
agree ds types (what.Constant a) (what.Constant b) = int_eq a b
agree ds types (what.Typedef t s) (what.Typedef u r) =
    same_type (means_after s (resolved_type ds types t Zero)) (means_after r (resolved_type ds types u Zero))
agree ds types a b = false

-- the definition defines the other's name again, as another thing
abbrev pub clashes : List Declaration → List TypedefMeaning → Declaration → Declaration → Bool
clashes ds types d other = bytes_eq d.name.word other.name.word && same_bool (is_tag d.what) (is_tag other.what) && not (agree ds types d.what other.what)

-- the faults of definitions, of which some stand earlier
unfoldable pub redefinitions : List Declaration → List TypedefMeaning → (earlier ds : List Declaration) → List Fault
redefinitions all types earlier [] = []
redefinitions all types earlier (d ∷ ds) =
    fault_if (list_any (λ other. clashes all types d other) earlier) REDEFINED d.file d.name.at ++ redefinitions all types (earlier ++ d ∷ []) ds

-- ---- 14: bounds, bits and tails

-- a bound is from 1 to 1,048,576, where it is read
abbrev pub is_bad_bound : Amount → Bool
is_bad_bound amount.Unread = false
is_bad_bound (amount.Is n) = not (int_le (pos 1) n && int_le n (pos MAX_BOUND))
is_bad_bound a = true

-- the bits that a bit-field of the type may have, where it is a number
abbrev pub unit_bits : Resolved → Option ℕ
unit_bits r = if is_zero r.stars then number_bits r.base else None
  where
    number_bits : BaseType → Option ℕ
    number_bits (Number scalar is_char) = Some (bits_of scalar)
    number_bits base = None

abbrev pub is_bad_count : Option ℕ → Amount → Bool
is_bad_count (Some most) (amount.Is n) = not (int_le (pos 1) n && int_le n (pos most))
is_bad_count most a = true

-- a bit-field of no number, in an array, or of too few or too many bits
abbrev pub is_bad_field : DeclaredType → Amount → Bool
is_bad_field t count = not (is_nil t.bounds) || is_bad_count (unit_bits t.resolved) count

-- Something of a tail type by value, where none may stand: only as a member of a union it may, in no array and without `skip`.
abbrev pub is_misused_tail : List Bool → (in_union : Bool) → List RawOption → DeclaredType → Bool
is_misused_tail tails in_union options t =
    option_map_or (λ id. has_flag tails id && not (in_union && is_nil t.bounds && not (has_skip options))) (held_type t) false

unfoldable pub is_bad_type : List Bool → Bool → List RawOption → DeclaredType → Bool
is_bad_type tails in_union options t =
    nat_lt MAX_DIMENSIONS (length t.bounds) || list_any is_bad_bound t.bounds || option_map_or (is_bad_field t) t.bits false
    || is_misused_tail tails in_union options t

-- ---- fields, structures, roots and caches

-- the faults of a field, which stand at its name; these are the names of the fields before it
abbrev pub field_faults : List Bool → (file : ℕ) → (in_union : Bool) → (before : List (List ℕ)) → DraftField → List Fault
field_faults tails file in_union before f =
    fault_if (list_any (λ name. bytes_eq name f.name.word) before) REDEFINED file f.name.at
    ++ fault_if (is_undefined_type f.options f.ty) UNDEFINED file f.name.at
    ++ fault_if (is_bad_type tails in_union f.options f.ty) BAD_BOUND file f.name.at
    ++ fault_if (nat_le MAX_FIELDS (length before)) TOO_MANY file f.name.at

unfoldable pub fields_faults : List Bool → ℕ → Bool → List (List ℕ) → List DraftField → List Fault
fields_faults tails file in_union before [] = []
fields_faults tails file in_union before (f ∷ fs) =
    field_faults tails file in_union before f ++ fields_faults tails file in_union (before ++ f.name.word ∷ []) fs

-- the faults of a structure at its tag, and of its fields; so many structures stand before it
abbrev pub structure_faults : (cyclic deep tails : List Bool) → ℕ → DraftStructure → List Fault
structure_faults cyclic deep tails place s =
    fault_if (has_flag cyclic place) BY_VALUE_CYCLE s.file s.tag.at
    ++ fault_if (has_flag deep place || nat_le MAX_STRUCTURES place) TOO_MANY s.file s.tag.at
    ++ fields_faults tails s.file s.is_union [] s.fields

unfoldable pub structures_faults : (cyclic deep tails : List Bool) → ℕ → List DraftStructure → List Fault
structures_faults cyclic deep tails place [] = []
structures_faults cyclic deep tails place (s ∷ ss) =
    structure_faults cyclic deep tails place s ++ structures_faults cyclic deep tails (suc place) ss

-- a root is no member of a union
abbrev pub root_faults : List Bool → ℕ → DraftRoot → List Fault
root_faults tails place r =
    fault_if (is_undefined_type r.options r.ty) UNDEFINED r.file r.name.at
    ++ fault_if (is_bad_type tails false r.options r.ty) BAD_BOUND r.file r.name.at
    ++ fault_if (nat_le MAX_ROOTS place) TOO_MANY r.file r.name.at

unfoldable pub roots_faults : List Bool → ℕ → List DraftRoot → List Fault
roots_faults tails place [] = []
roots_faults tails place (r ∷ rs) = root_faults tails place r ++ roots_faults tails (suc place) rs

abbrev pub cache_faults : ℕ → DraftCache → List Fault
cache_faults place c =
    fault_if (is_nothing c.key || is_nothing c.value) UNDEFINED c.file c.name.at ++ fault_if (nat_le MAX_CACHES place) TOO_MANY c.file c.name.at

unfoldable pub caches_faults : ℕ → List DraftCache → List Fault
caches_faults place [] = []
caches_faults place (c ∷ cs) = cache_faults place c ++ caches_faults (suc place) cs

-- ---- all faults

-- the faults of what files declare
unfoldable pub faults_of : List Declaration → List TypedefMeaning → Draft → (cyclic deep tails : List Bool) → List Fault
faults_of ds types draft cyclic deep tails =
    redefinitions ds types [] ds ++ structures_faults cyclic deep tails 0 draft.structures ++ roots_faults tails 0 draft.roots ++ caches_faults 0 draft.caches
