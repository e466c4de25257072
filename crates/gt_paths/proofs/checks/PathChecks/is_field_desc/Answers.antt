use Rattle.std.specs.Bool.{Decides}
use Rattle.std.proofs.lemmas.Result.{IfOk-weaker}
use Rattle.gt_types.specs.Paths.{IsFieldDescBeside, paths_of}
use Rattle.gt_paths.specs.declared.checks.PathOption.TheVariants.{Desc}
use Rattle.gt_paths.specs.Checks.{inner_of}
use Rattle.gt_paths.proofs.Fitting.{AllFit, field_desc}
use Rattle.gt_paths.proofs.checks.PathChecks.is_field_desc.Goals as goal

pub returns-clause-decides : goal.returns-clause-decides
returns-clause-decides c =
    IfOk-weaker c.all_paths_fit.result (λ r. Decides r (AllFit c.args.self.now (Desc c.args.union) (paths_of c.args.e.now)))
    (λ r. Decides r (IsFieldDescBeside (inner_of c.args.self.now) c.args.self.now.program c.args.self.now.node c.args.union c.args.e.now))
    (λ r decides. field_desc c.args.self.now c.args.union c.args.e.now r (c.has_operators.ensures.decides.0 c.if-not-has_operators.false) (c.has_no_roots.ensures.0 c.if-not-has_no_roots.false) decides) c.all_paths_fit.ensures.decides
