use Rattle.std.proofs.Common.{subst}
use Rattle.gt_types.specs.declared.expressions.Base.TheVariants.{Outermost}
use Rattle.gt_starts.specs.Paths.{BeginsIn}
use Rattle.gt_leaf.specs.Seeking.{Gains, PathsOfRoots}
use Rattle.gt_leaf.proofs.ExprPaths.{on-ok}
use Rattle.gt_leaf.proofs.SeekLemmas.{gains-outermost}
use Rattle.gt_leaf.proofs.seeking.add_outermost.Goals as goal

pub returns : goal.returns
returns c = record {
  added = on-ok c.add_roots.result
      (λ more. gains-outermost c.args.program.now (BeginsIn c.args.paths.now) (BeginsIn c.add_outer_structures.new.paths) (BeginsIn c.add_roots.new.paths) c.in_ok-add_outer_structures.ensures.added
      (subst (λ rs. Gains (BeginsIn c.add_outer_structures.new.paths) (BeginsIn c.add_roots.new.paths) (PathsOfRoots Outermost rs)) c.as_slice.ensures.items more)) c.add_roots.ensures.added;
}
