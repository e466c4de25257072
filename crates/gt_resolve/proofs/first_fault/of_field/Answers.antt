use Rattle.std.proofs.Common.{◌∙◌, ap, sym}
use Rattle.std.specs.Prelude.{nat_le}
use Rattle.gt_drafts.specs.Undefined.{is_undefined_type}
use Rattle.gt_resolve.specs.Faults.{is_bad_type}
use Rattle.gt_types.specs.declared.limits.TheConstants.{MAX_FIELDS}
use Rattle.gt_resolve.proofs.Firsts.{first_from_both, first_from_if}
use Rattle.gt_resolve.proofs.first_fault.of_field.Goals as goal

pub returns : goal.returns
returns c =
    let options = c.as_slice-options.ensures.items in
    let undefined = c.is_undefined_type-undefined.ensures.same ∙ ap (λ o. is_undefined_type o c.args.f.now.ty) options in
    let bad = c.is_bad_type-bad.ensures.same ∙ ap (λ o. is_bad_type c.args.tails.now c.args.in_union o c.args.f.now.ty) options in
    record {
      earliest = λ before named place.
          first_from_both _ _ _ _ _
          (first_from_both _ _ _ _ _
          (first_from_both _ _ _ _ _ (first_from_if _ _ _ _ _ _ _ c.with_fault-earliest.ensures.same (sym named))
          (first_from_if _ _ _ _ _ _ _ c.with_fault-earliest-2.ensures.same undefined))
          (first_from_if _ _ _ _ _ _ _ c.with_fault-earliest-3.ensures.same bad))
          (first_from_if _ _ _ _ _ _ _ c.with_fault.ensures.same (ap (nat_le MAX_FIELDS) (sym place)));
    }
