use Rattle.std.proofs.Common.{sym, subst, ◌∙◌}
use Rattle.gt_types.specs.Shapes.{innermost}
use Rattle.gt_starts.specs.Paths.{BeginsIn}
use Rattle.gt_leaf.specs.Seeking.{Gains, IsOne, PathsOfSome}
use Rattle.gt_leaf.proofs.ExprPaths.{on-ok}
use Rattle.gt_leaf.proofs.SeekLemmas.{gains-union}
use Rattle.gt_leaf.proofs.seeking.add_union.Goals as goal

pub returns-in-Node : goal.returns-in-Node
returns-in-Node c = record {
  added = on-ok c.add_at.result
      (λ more. gains-union c.args.base c.in-Node.id c.in-Node.desc (innermost c.args.ty.now) (BeginsIn c.args.paths.now) (BeginsIn c.add_at.new.paths) (sym c.innermost.ensures ∙ c.in-Node.is)
      (subst (λ o. Gains (BeginsIn c.args.paths.now) (BeginsIn c.add_at.new.paths) (PathsOfSome c.args.base (IsOne c.in-Node.id.0) o)) c.as_ref.ensures.value more)) c.add_at.ensures.added;
}
