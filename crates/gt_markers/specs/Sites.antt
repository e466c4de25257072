-- Where the options of a marker may stand, and which of them are faults by the marker alone.
use Rattle.std.specs.Prelude.{ℕ, Bool, true, false, ◌&&◌, ◌||◌, not, if◌then◌else◌, codes, List, [], ◌∷◌, ◌++◌, is_none, slice_get}
use Rattle.std.specs.Option.{option_map_or}
use Rattle.std.specs.List.{list_any}
use Rattle.std.specs.Str.{bytes_eq}
use Rattle.gt_types.specs.declared.faults.Fault.{Fault}
use Rattle.gt_items.specs.declared.items.Parameter.{Parameter}
use Rattle.gt_items.specs.declared.items.Parameter.TheVariants.{Text}
use Rattle.gt_items.specs.declared.items.RawOption.{RawOption}
use Rattle.gt_items.specs.declared.items.Stars.{Stars}
use Rattle.gt_items.specs.declared.items.Stars.TheVariants.{One, Two}
use Rattle.gt_drafts.specs.declared.types.BaseType.{BaseType}
use Rattle.gt_drafts.specs.declared.types.BaseType.TheVariants.{Number, Structure}
use Rattle.gt_drafts.specs.declared.types.DeclaredType.{DeclaredType}
use Rattle.gt_drafts.specs.declared.draft.Draft.{Draft}
use Rattle.gt_drafts.specs.declared.draft.DraftStructure.{DraftStructure}
use Rattle.gt_drafts.specs.Options.{has_option, has_skip}
use Rattle.gt_drafts.specs.FirstFaults.{fault_if}
use Rattle.gt_drafts.specs.Undefined.{is_zero}
use Rattle.gt_drafts.specs.Sameness.{same_bool}
use Rattle.gt_drafts.specs.Shapes.{held_type, is_nil}
use Rattle.gt_markers.specs.declared.TheConstants.{UNKNOWN_OPTION, WRONG_PLACE, DUPLICATE_TAG, BAD_PATH, UNKNOWN_HOOK, CACHE_SHAPE}
use Rattle.gt_markers.specs.declared.kinds.OptionKind.{OptionKind}
use Rattle.gt_markers.specs.declared.kinds.OptionKind.TheVariants.{Skip, Length, Desc, Tag, Default, Cache, Deletable, MaybeUndef, ChainNext, ChainPrev, ChainCircular, Atomic, StringLength, VariableSize, ForUser, Reorder}
use Rattle.gt_markers.specs.Options.{kind_of, needs_parameter, has_parameter, stands_beside_skip, exclude}
use Rattle.gt_markers.specs.Expressions.{constant_value}

-- ---- types by their spelling

-- no array and no pointer to a function
abbrev pub is_single : DeclaredType → Bool
is_single t = is_nil t.bounds && not t.is_function

-- a pointer, of which a string is one, or an array of them
abbrev pub are_pointers : DeclaredType → Bool
are_pointers t = not t.is_function && not (is_zero t.resolved.stars)

-- a pointer, of which a string is one
abbrev pub is_pointer : DeclaredType → Bool
is_pointer t = is_nil t.bounds && are_pointers t

abbrev pub points_to_characters : BaseType → Stars → Bool
points_to_characters (Number scalar true) One = true
points_to_characters base stars = false

abbrev pub is_string : DeclaredType → Bool
is_string t = is_single t && points_to_characters t.resolved.base t.resolved.stars

abbrev pub points_to_many : BaseType → Stars → Bool
points_to_many (Structure id) One = true
points_to_many (Structure id) Two = true
points_to_many (Number scalar true) Two = true
points_to_many base stars = false

-- a pointer to structures, to pointers to structures, or to strings
abbrev pub is_counted : DeclaredType → Bool
is_counted t = is_single t && points_to_many t.resolved.base t.resolved.stars

-- the array at the end of a struct
abbrev pub is_last_array : (in_union last : Bool) → DeclaredType → Bool
is_last_array in_union last t = not in_union && last && not (is_nil t.bounds) && not t.is_function

abbrev pub is_union_at : List DraftStructure → ℕ → Bool
is_union_at structures id = option_map_or (λ s. s.is_union) (slice_get structures id) false

-- a union by value, or an array of unions
abbrev pub holds_unions : List DraftStructure → DeclaredType → Bool
holds_unions structures t = option_map_or (is_union_at structures) (held_type t) false

abbrev pub is_sorted_base : (counted : Bool) → BaseType → Stars → Bool
is_sorted_base false (Structure id) One = true
is_sorted_base true (Structure id) Two = true
is_sorted_base counted base stars = false

-- what may be sorted in an image: a pointer to one structure, or to pointers with `length`; none whose block is never scanned
abbrev pub is_sorted : List RawOption → DeclaredType → Bool
is_sorted options t =
    is_single t && is_sorted_base (has_option (codes "length") options) t.resolved.base t.resolved.stars && not (has_option (codes "atomic") options)

-- ---- where options may stand

-- where a marker stands: at a field, which is one of a union or not, and the last or not; at a structure; at a root; at a cache
pub data Site : Type 0 where
  at_field : (in_union last : Bool) (t : DeclaredType) → Site
  at_structure : (is_union : Bool) → Site
  at_root : (t : DeclaredType) → Site
  at_cache : Site

-- whether an option may stand there, beside these
abbrev pub may_stand : List DraftStructure → Site → List RawOption → OptionKind → Bool
may_stand structures (at_field in_union last t) options Skip = true
may_stand structures (at_field in_union last t) options Length = is_last_array in_union last t || is_counted t
may_stand structures (at_field in_union last t) options Desc = holds_unions structures t
may_stand structures (at_field in_union last t) options Tag = in_union
may_stand structures (at_field in_union last t) options Default = in_union
may_stand structures (at_field in_union last t) options MaybeUndef = is_pointer t
may_stand structures (at_field in_union last t) options Atomic = is_pointer t
may_stand structures (at_field in_union last t) options StringLength = is_string t
may_stand structures (at_field in_union last t) options Reorder = is_sorted options t
may_stand structures (at_structure is_union) options Desc = is_union
may_stand structures (at_structure is_union) options ChainNext = true
may_stand structures (at_structure is_union) options ChainPrev = true
may_stand structures (at_structure is_union) options ChainCircular = true
may_stand structures (at_structure is_union) options VariableSize = true
may_stand structures (at_structure is_union) options ForUser = true
may_stand structures (at_root t) options Length = is_counted t
may_stand structures (at_root t) options Desc = holds_unions structures t
may_stand structures (at_root t) options Deletable = are_pointers t
may_stand structures (at_root t) options Atomic = is_pointer t
may_stand structures (at_root t) options Reorder = is_sorted options t
may_stand structures at_cache options Cache = true
may_stand structures site options kind = false

-- `cache` on a root is the fault of a cache without its form; any other option in a wrong place is one of its place
abbrev pub wrong_number : Site → OptionKind → ℕ
wrong_number (at_root t) Cache = CACHE_SHAPE
wrong_number site kind = WRONG_PLACE

-- an option that `skip` passes over
abbrev pub is_passed_over : Site → List RawOption → OptionKind → Bool
is_passed_over (at_field in_union last t) options kind = has_skip options && not (stands_beside_skip kind)
is_passed_over site options kind = false

-- ---- faults of one marker

abbrev pub is_tag : OptionKind → Bool
is_tag Tag = true
is_tag kind = false

-- an option of this name stands among those
abbrev pub stands_among : List RawOption → RawOption → Bool
stands_among options o = list_any (λ e. bytes_eq e.name.word o.name.word) options

-- an option stands among those that may not stand beside this one
abbrev pub is_excluded : List RawOption → OptionKind → Bool
is_excluded options kind = list_any (λ e. option_map_or (exclude kind) (kind_of e.name.word) false) options

-- a hook that is not known
abbrev pub is_unknown_hook : OptionKind → Parameter → Bool
is_unknown_hook Reorder (Text hook) = not (bytes_eq hook (codes "resort_by_address"))
is_unknown_hook kind parameter = false

-- A parameter is missing, or there is one too many; the option stands twice, which for `tag` is another fault; or it may not stand
-- beside one before it.
abbrev pub is_ill_formed : List RawOption → RawOption → OptionKind → Bool
is_ill_formed before o kind =
    not (same_bool (needs_parameter kind) (has_parameter o.parameter)) || (not (is_tag kind) && stands_among before o) || is_excluded before kind

-- the faults of a known option, after those before it
abbrev pub known_faults : Draft → Site → List RawOption → ℕ → List RawOption → RawOption → OptionKind → List Fault
known_faults draft site options file before o kind =
    if is_passed_over site options kind then [] else (
    fault_if (is_ill_formed before o kind) WRONG_PLACE file o.name.at
    ++ fault_if (not (may_stand draft.structures site options kind)) (wrong_number site kind) file o.name.at
    ++ fault_if (is_tag kind && stands_among before o) DUPLICATE_TAG file o.name.at
    ++ fault_if (is_tag kind && is_none (constant_value draft o.parameter)) BAD_PATH file o.name.at
    ++ fault_if (is_unknown_hook kind o.parameter) UNKNOWN_HOOK file o.name.at)

-- the faults of an option
abbrev pub option_faults : Draft → Site → List RawOption → ℕ → List RawOption → RawOption → List Fault
option_faults draft site options file before o =
    option_map_or (known_faults draft site options file before o) (kind_of o.name.word) (fault_if true UNKNOWN_OPTION file o.name.at)

-- those of a marker's options, of which some stand before
unfoldable pub faults_after : Draft → Site → List RawOption → ℕ → List RawOption → List RawOption → List Fault
faults_after draft site options file before [] = []
faults_after draft site options file before (o ∷ os) =
    option_faults draft site options file before o ++ faults_after draft site options file (before ++ o ∷ []) os

-- those of a whole marker
abbrev pub marker_faults : Draft → Site → ℕ → List RawOption → List Fault
marker_faults draft site file options = faults_after draft site options file [] options
