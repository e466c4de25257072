use Rattle.std.proofs.Common.{subst}
use Rattle.gt_types.specs.Paths.{AreSteps}
use Rattle.gt_paths.proofs.Fitting.{desc_at, own_at}
use Rattle.gt_paths.proofs.checks.PathChecks.path_fits.Goals as goal

pub returns-in-Own-clause-decides : goal.returns-in-Own-clause-decides
returns-in-Own-clause-decides c =
    own_at c.args.self.now c.args.place c.args.base c.args.steps.now c.own_path_fits.result c.in-Own.is
    (subst AreSteps c.as_slice.ensures.items (c.are_steps.ensures.0 c.if-not-are_steps.false)) c.own_path_fits.ensures.decides

pub returns-in-Desc-clause-decides : goal.returns-in-Desc-clause-decides
returns-in-Desc-clause-decides c =
    desc_at c.args.self.now c.args.place c.in-Desc.union c.args.base c.args.steps.now c.desc_path_fits.result c.in-Desc.is
    (subst AreSteps c.as_slice.ensures.items (c.are_steps.ensures.0 c.if-not-are_steps.false)) c.desc_path_fits.ensures.decides
