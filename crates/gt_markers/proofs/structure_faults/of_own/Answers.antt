use Rattle.std.proofs.Common.{◌∙◌, ap}
use Rattle.std.specs.Prelude.{◌&&◌, not, is_none}
use Rattle.gt_drafts.specs.Options.{has_skip}
use Rattle.gt_markers.specs.Expressions.{constants}
use Rattle.gt_drafts.specs.FirstFaults.{first_from}
use Rattle.gt_markers.specs.MarkerFaults.{is_unmarked}
use Rattle.gt_markers.specs.Sites.{at_field, marker_faults}
use Rattle.gt_markers.specs.Typing.{says, walked_type}
use Rattle.gt_markers.proofs.Firsts.{first_from_both, first_from_if}
use Rattle.gt_markers.proofs.structure_faults.of_own.Goals as goal

pub returns : goal.returns
returns c =
    let draft = c.args.draft.now in
    let structure = c.args.member.structure.now in
    let field = c.args.member.field.now in
    let items = c.as_slice-options.ensures.items in
    let site = at_field structure.is_union c.args.member.last field.ty in
    let untyped =
    c.is_untyped-untyped.ensures.untyped (constants draft) draft
    ∙ ap (λ os. not (has_skip os) && is_none (walked_type draft (says (constants draft) os) field.ty)) items in
    let unmarked = c.is_unmarked-unmarked.ensures.unmarked ∙ ap (λ os. structure.is_union && is_unmarked os) items in
    record {
      earliest =
          first_from_both _ _ _ _ _
          (first_from_both _ _ _ _ _
          (c.in_ok-earliest.ensures.earliest ∙ ap (λ os. first_from c.args.earliest (marker_faults draft site structure.file os)) items)
          (first_from_if _ _ _ _ _ _ _ c.with_fault-earliest.ensures.same untyped))
          (first_from_if _ _ _ _ _ _ _ c.with_fault.ensures.same unmarked);
    }
