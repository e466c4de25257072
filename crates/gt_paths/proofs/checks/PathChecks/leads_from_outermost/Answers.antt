use Rattle.std.proofs.Common.{subst}
use Rattle.std.specs.Bool.{Decides}
use Rattle.gt_types.specs.declared.expressions.Base.TheVariants.{Outermost}
use Rattle.gt_types.specs.Paths.{PathFitsBeside}
use Rattle.gt_paths.specs.Checks.{Checked, inner_of}
use Rattle.gt_paths.proofs.checks.PathChecks.leads_from_outermost.Goals as goal

pub returns-clause-decides : goal.returns-clause-decides
returns-clause-decides c =
    subst (λ (v : Checked). Decides c.in_ok-leads.leads (PathFitsBeside (inner_of v) v.program v.node Outermost c.args.steps.now)) c.self.view_is c.in_ok-leads.ensures.decides
