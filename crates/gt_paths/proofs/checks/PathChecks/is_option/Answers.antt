use Rattle.std.specs.Bool.{Decides}
use Rattle.std.proofs.lemmas.Result.{IfOk-weaker}
use Rattle.gt_types.specs.Paths.{IsOptionBeside, paths_of}
use Rattle.gt_paths.specs.declared.checks.PathOption.TheVariants.{Own}
use Rattle.gt_paths.specs.Checks.{inner_of}
use Rattle.gt_paths.proofs.Fitting.{AllFit, own_option}
use Rattle.gt_paths.proofs.checks.PathChecks.is_option.Goals as goal

pub returns-clause-decides : goal.returns-clause-decides
returns-clause-decides c =
    IfOk-weaker c.all_paths_fit.result (λ r. Decides r (AllFit c.args.self.now Own (paths_of c.args.e.now)))
    (λ r. Decides r (IsOptionBeside (inner_of c.args.self.now) c.args.self.now.program c.args.self.now.node c.args.e.now))
    (λ r decides. own_option c.args.self.now c.args.e.now r (c.has_operators.ensures.decides.0 c.if-not-has_operators.false) (c.has_no_roots.ensures.0 c.if-not-has_no_roots.false) decides) c.all_paths_fit.ensures.decides
