use Rattle.std.proofs.Common.{◌∙◌, ap}
use Rattle.std.specs.Prelude.{◌&&◌, not, is_none}
use Rattle.gt_drafts.specs.Options.{has_skip}
use Rattle.gt_markers.specs.Expressions.{constants_and_roots}
use Rattle.gt_drafts.specs.FirstFaults.{first_from}
use Rattle.gt_markers.specs.Sites.{at_root, marker_faults}
use Rattle.gt_markers.specs.Typing.{says, walked_type}
use Rattle.gt_markers.proofs.Firsts.{first_from_both, first_from_if}
use Rattle.gt_markers.proofs.field_faults.of_root.Goals as goal

pub returns : goal.returns
returns c =
    let draft = c.args.draft.now in
    let root = c.args.root.now in
    let items = c.as_slice-options.ensures.items in
    let untyped =
    c.is_untyped-untyped.ensures.untyped (constants_and_roots draft) draft
    ∙ ap (λ os. not (has_skip os) && is_none (walked_type draft (says (constants_and_roots draft) os) root.ty)) items in
    record {
      earliest =
          first_from_both _ _ _ _ _
          (c.in_ok-earliest.ensures.earliest ∙ ap (λ os. first_from c.args.earliest (marker_faults draft (at_root root.ty) root.file os)) items)
          (first_from_if _ _ _ _ _ _ _ c.with_fault.ensures.same untyped);
    }
