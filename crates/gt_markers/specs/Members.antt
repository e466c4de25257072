-- No promise: the fields of a structure so far, as the program holds them, and the parts of a field's faults.
use Rattle.std.specs.Prelude.{◌≡◌, ℤ, Bool, false, ◌&&◌, List, ◌++◌, Option, Some, None}
use Rattle.std.specs.List.{list_any}
use Rattle.std.specs.Ordering.{int_cmp}
use Rattle.std.specs.BTreeSet.{contains}
use Rattle.gt_types.specs.declared.faults.Fault.{Fault}
use Rattle.gt_drafts.specs.declared.draft.Draft.{Draft}
use Rattle.gt_drafts.specs.declared.draft.DraftField.{DraftField}
use Rattle.gt_drafts.specs.declared.draft.DraftStructure.{DraftStructure}
use Rattle.gt_drafts.specs.FirstFaults.{fault_if}
use Rattle.gt_markers.specs.declared.TheConstants.{WRONG_PLACE, MISSING_DESC}
use Rattle.gt_markers.specs.declared.members.Members.{Members}
use Rattle.gt_markers.specs.Expressions.{constants}
use Rattle.gt_markers.specs.MarkerFaults.{has_tag, is_default, is_unmarked, is_untyped}
use Rattle.gt_markers.specs.Sites.{at_field, marker_faults}

-- whether a member so far has a tag of this value
abbrev pub holds_tag : Members → Option ℤ → Bool
holds_tag members (Some value) = contains int_cmp members.tags value
holds_tag members None = false

-- these are the fields so far
pub record AreMembers (draft : Draft) (before : List DraftField) (members : Members) : Type 0 where
  pub tags : (tag : Option ℤ) → holds_tag members tag ≡ list_any (has_tag draft tag) before
  pub default : members.has_default ≡ list_any is_default before

-- the faults of a field that do not rest on the fields before it
abbrev pub own_faults : Draft → DraftStructure → (last : Bool) → DraftField → List Fault
own_faults draft s last f =
    marker_faults draft (at_field s.is_union last f.ty) s.file f.options
    ++ fault_if (is_untyped (constants draft) draft f.options f) WRONG_PLACE s.file f.name.at
    ++ fault_if (s.is_union && is_unmarked f.options) MISSING_DESC s.file f.name.at
