use Rattle.std.proofs.Common.{sym, subst}
use Rattle.std.specs.Prelude.{IfOk}
use Rattle.std.specs.Bool.{Decides}
use Rattle.gt_rules.specs.declared.purposes.Purpose.{Purpose}
use Rattle.gt_rules.specs.Parts.{Fits}
use Rattle.gt_rules.proofs.InnerLemmas.{option_ok, desc_ok}
use Rattle.gt_rules.proofs.purposes.fits.Goals as goal

pub returns-in-Own-clause-decides : goal.returns-in-Own-clause-decides
returns-in-Own-clause-decides c draft program are =
    subst (λ (p : Purpose). IfOk c.is_option.result (λ r. Decides r (Fits draft program c.args.checks.now.node p c.args.e.now))) (sym c.in-Own.is)
    (option_ok draft program c.args.checks.now c.args.e.now c.is_option.result are c.is_option.ensures.decides)

pub returns-in-FieldDesc-clause-decides : goal.returns-in-FieldDesc-clause-decides
returns-in-FieldDesc-clause-decides c draft program are =
    subst (λ (p : Purpose). IfOk c.is_field_desc.result (λ r. Decides r (Fits draft program c.args.checks.now.node p c.args.e.now))) (sym c.in-FieldDesc.is)
    (desc_ok draft program c.args.checks.now c.in-FieldDesc.held c.args.e.now c.is_field_desc.result are c.is_field_desc.ensures.decides)
