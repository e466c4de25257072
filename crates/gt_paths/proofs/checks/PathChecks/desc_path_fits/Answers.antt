use Rattle.std.proofs.Common.{sym, subst}
use Rattle.std.specs.Prelude.{IfOk}
use Rattle.std.specs.Bool.{Decides}
use Rattle.gt_types.specs.declared.expressions.Base.{Base}
use Rattle.gt_types.specs.Paths.{DescPathFitsBeside}
use Rattle.gt_paths.specs.Checks.{inner_of}
use Rattle.gt_paths.proofs.checks.PathChecks.desc_path_fits.Goals as goal

pub returns-in-Outermost-clause-decides : goal.returns-in-Outermost-clause-decides
returns-in-Outermost-clause-decides c =
    let checks = c.args.self.now in
    subst (λ (begin : Base). IfOk c.leads_from_outermost.result (λ r. Decides r (DescPathFitsBeside (inner_of checks) checks.program checks.node c.args.union begin c.args.steps.now)))
    (sym c.in-Outermost.is) c.leads_from_outermost.ensures.decides
