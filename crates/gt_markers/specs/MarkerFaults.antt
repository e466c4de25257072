-- The faults of options that a draft alone tells.
use Rattle.std.specs.Prelude.{ℕ, ℤ, Bool, true, false, ◌&&◌, ◌||◌, not, codes, List, [], ◌∷◌, ◌++◌, Option, Some, None, is_none, flat_map}
use Rattle.std.specs.Option.{option_map_or}
use Rattle.std.specs.List.{list_any}
use Rattle.std.specs.Ordering.{int_eq}
use Rattle.gt_types.specs.declared.faults.Fault.{Fault}
use Rattle.gt_items.specs.declared.items.RawOption.{RawOption}
use Rattle.gt_drafts.specs.declared.draft.Draft.{Draft}
use Rattle.gt_drafts.specs.declared.draft.DraftCache.{DraftCache}
use Rattle.gt_drafts.specs.declared.draft.DraftField.{DraftField}
use Rattle.gt_drafts.specs.declared.draft.DraftRoot.{DraftRoot}
use Rattle.gt_drafts.specs.declared.draft.DraftStructure.{DraftStructure}
use Rattle.gt_drafts.specs.Options.{has_option, has_skip}
use Rattle.gt_drafts.specs.FirstFaults.{fault_if}
use Rattle.gt_markers.specs.declared.TheConstants.{WRONG_PLACE, MISSING_DESC, DUPLICATE_TAG}
use Rattle.gt_markers.specs.Options.{option_named}
use Rattle.gt_markers.specs.Expressions.{Names, constants, constants_and_roots, constant_value}
use Rattle.gt_markers.specs.Typing.{says, walked_type}
use Rattle.gt_markers.specs.Sites.{at_field, at_structure, at_root, at_cache, marker_faults}

-- ---- by the draft alone

-- without `skip`, a type that cannot be walked
abbrev pub is_untyped : Names → Draft → List RawOption → DraftField → Bool
is_untyped names draft options f = not (has_skip options) && is_none (walked_type draft (says names options) f.ty)

-- the value of a member's tag; none where it has no tag, or one without a value
abbrev pub tag_value : Draft → List RawOption → Option ℤ
tag_value draft options = option_map_or (λ o. constant_value draft o.parameter) (option_named (codes "tag") options) None

-- two tags have one value
abbrev pub same_tag : Option ℤ → Option ℤ → Bool
same_tag (Some a) (Some b) = int_eq a b
same_tag a b = false

-- a member has a tag of this value
abbrev pub has_tag : Draft → Option ℤ → DraftField → Bool
has_tag draft tag f = same_tag tag (tag_value draft f.options)

-- a member is the default, beside a tag too
abbrev pub is_default : DraftField → Bool
is_default f = has_option (codes "default") f.options

-- an option that is repeated, at its place
abbrev pub repeated_fault : (repeated : Bool) → ℕ → Option RawOption → List Fault
repeated_fault repeated file (Some o) = fault_if repeated DUPLICATE_TAG file o.name.at
repeated_fault repeated file None = []

-- a tag of a value that a member before has too, and a default where one before is the default
abbrev pub repeated_faults : Draft → (in_union : Bool) → List DraftField → ℕ → List RawOption → List Fault
repeated_faults draft in_union before file options =
    repeated_fault (in_union && list_any (has_tag draft (tag_value draft options)) before) file (option_named (codes "tag") options)
    ++ repeated_fault (in_union && list_any is_default before) file (option_named (codes "default") options)

-- a member of a union needs a tag, or `default`, or `skip`
abbrev pub is_unmarked : List RawOption → Bool
is_unmarked options = not (has_option (codes "tag") options || has_option (codes "default") options || has_skip options)

-- the faults of a field that the draft tells, after the fields before it
abbrev pub field_faults : Draft → DraftStructure → List DraftField → (last : Bool) → DraftField → List Fault
field_faults draft s before last f =
    marker_faults draft (at_field s.is_union last f.ty) s.file f.options
    ++ fault_if (is_untyped (constants draft) draft f.options f) WRONG_PLACE s.file f.name.at
    ++ fault_if (s.is_union && is_unmarked f.options) MISSING_DESC s.file f.name.at
    ++ repeated_faults draft s.is_union before s.file f.options

abbrev pub is_empty : {A : Type 0} → List A → Bool
is_empty [] = true
is_empty (x ∷ xs) = false

unfoldable pub fields_faults : Draft → DraftStructure → List DraftField → List DraftField → List Fault
fields_faults draft s before [] = []
fields_faults draft s before (f ∷ fs) = field_faults draft s before (is_empty fs) f ++ fields_faults draft s (before ++ f ∷ []) fs

abbrev pub structure_faults : Draft → DraftStructure → List Fault
structure_faults draft s = marker_faults draft (at_structure s.is_union) s.file s.options ++ fields_faults draft s [] s.fields

abbrev pub root_faults : Draft → DraftRoot → List Fault
root_faults draft r =
    marker_faults draft (at_root r.ty) r.file r.options
    ++ fault_if (not (has_skip r.options) && is_none (walked_type draft (says (constants_and_roots draft) r.options) r.ty)) WRONG_PLACE r.file r.name.at

abbrev pub cache_faults : Draft → DraftCache → List Fault
cache_faults draft c = marker_faults draft at_cache c.file c.options

-- the faults that the draft alone tells
abbrev pub draft_faults : Draft → List Fault
draft_faults draft =
    flat_map (structure_faults draft) draft.structures ++ flat_map (root_faults draft) draft.roots ++ flat_map (cache_faults draft) draft.caches
