use Rattle.std.proofs.Common.{◌∙◌, ap, false}
use Rattle.gt_drafts.specs.Undefined.{is_undefined_type}
use Rattle.gt_resolve.specs.Faults.{is_bad_type}
use Rattle.gt_resolve.proofs.Firsts.{first_from_both, first_from_if}
use Rattle.gt_resolve.proofs.first_fault.of_root.Goals as goal

pub returns : goal.returns
returns c =
    let options = c.as_slice-options.ensures.items in
    let undefined = c.is_undefined_type-undefined.ensures.same ∙ ap (λ o. is_undefined_type o c.args.r.now.ty) options in
    let bad = c.is_bad_type-bad.ensures.same ∙ ap (λ o. is_bad_type c.args.tails.now false o c.args.r.now.ty) options in
    record {
      earliest =
          first_from_both _ _ _ _ _
          (first_from_both _ _ _ _ _ (first_from_if _ _ _ _ _ _ _ c.with_fault-earliest.ensures.same undefined)
          (first_from_if _ _ _ _ _ _ _ c.with_fault-earliest-2.ensures.same bad)) c.with_fault.ensures.same;
    }
