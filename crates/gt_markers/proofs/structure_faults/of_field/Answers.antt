use Rattle.std.proofs.Common.{◌≡◌, ◌∙◌, List, [], ◌∷◌, ◌++◌, ap, sym}
use Rattle.gt_items.specs.declared.items.RawOption.{RawOption}
use Rattle.gt_drafts.specs.declared.draft.Draft.{Draft}
use Rattle.gt_drafts.specs.declared.draft.DraftField.{DraftField}
use Rattle.gt_drafts.specs.FirstFaults.{first_from}
use Rattle.gt_markers.specs.Lookups.{IsLookupOf}
use Rattle.gt_markers.specs.MarkerFaults.{field_faults, repeated_faults}
use Rattle.gt_markers.specs.Members.{AreMembers}
use Rattle.gt_markers.proofs.Firsts.{first_from_both, if_ok}
use Rattle.gt_markers.proofs.MemberLemmas.{on_ok}
use Rattle.gt_markers.proofs.structure_faults.of_field.Goals as goal

pub returns-clause-earliest : goal.returns-clause-earliest
returns-clause-earliest c =
    let draft = c.args.draft.now in
    let s = c.args.member.structure.now in
    let f = c.args.member.field.now in
    let before = c.args.before.now in
    let options = c.as_slice-options.result.now in
    let e = c.in_ok-earliest.earliest in
    if_ok c.of_repeats.result
    (λ r. (d : Draft) (fields : List DraftField) → IsLookupOf d c.args.lookup.now → AreMembers d fields before → r ≡ first_from e (repeated_faults d s.is_union fields s.file options))
    (λ r. (fields : List DraftField) → AreMembers draft fields before → r ≡ first_from c.args.earliest (field_faults draft s fields c.args.member.last f))
    (λ r h fields are.
    first_from_both _ _ _ _ _ c.in_ok-earliest.ensures.earliest
    (h draft fields c.requires.lookup are ∙ ap (λ (os : List RawOption). first_from e (repeated_faults draft s.is_union fields s.file os)) c.as_slice-options.ensures.items))
    c.of_repeats.ensures.earliest

pub returns-clause-members : goal.returns-clause-members
returns-clause-members c =
    let draft = c.args.draft.now in
    let f = c.args.member.field.now in
    let before = c.args.before.now in
    let after = c.of_repeats.new.before in
    on_ok c.of_repeats.result
    ((d : Draft) (fields : List DraftField) (g : DraftField) → IsLookupOf d c.args.lookup.now → AreMembers d fields before → g.options ≡ c.as_slice-options.result.now
    → AreMembers d (fields ++ g ∷ []) after)
    ((fields : List DraftField) → AreMembers draft fields before → AreMembers draft (fields ++ f ∷ []) after)
    (λ h fields are. h draft fields f c.requires.lookup are (sym c.as_slice-options.ensures.items)) c.of_repeats.ensures.members
