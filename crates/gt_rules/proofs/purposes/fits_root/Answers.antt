use Rattle.std.proofs.Common.{sym, subst}
use Rattle.std.specs.Bool.{Decides}
use Rattle.gt_rules.specs.declared.purposes.RootPurpose.{RootPurpose}
use Rattle.gt_rules.specs.Parts.{RootFits}
use Rattle.gt_rules.proofs.purposes.fits_root.Goals as goal

pub returns-in-Count : goal.returns-in-Count
returns-in-Count c = record {
  decides = subst (λ (p : RootPurpose). Decides c.is_root_count.result (RootFits c.args.program.now p c.args.e.now)) (sym c.in-Count.is) c.is_root_count.ensures.decides;
}

pub returns-in-Desc : goal.returns-in-Desc
returns-in-Desc c = record {
  decides = subst (λ (p : RootPurpose). Decides c.is_root_desc.result (RootFits c.args.program.now p c.args.e.now)) (sym c.in-Desc.is) c.is_root_desc.ensures.decides;
}
