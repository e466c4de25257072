use Rattle.std.proofs.Common.{subst}
use Rattle.gt_types.specs.declared.expressions.Base.TheVariants.{Here}
use Rattle.gt_starts.specs.Paths.{BeginsIn}
use Rattle.gt_leaf.specs.Seeking.{Gains, PathsOfRoots}
use Rattle.gt_leaf.proofs.ExprPaths.{on-ok}
use Rattle.gt_leaf.proofs.SeekLemmas.{gains-inside}
use Rattle.gt_leaf.proofs.seeking.add_inside.Goals as goal

pub returns : goal.returns
returns c = record {
  added = on-ok c.add_roots.result
      (λ more. gains-inside c.args.program.now (BeginsIn c.args.paths.now) (BeginsIn c.add_structures.new.paths) (BeginsIn c.add_roots.new.paths) c.in_ok-add_structures.ensures.added
      (subst (λ rs. Gains (BeginsIn c.add_structures.new.paths) (BeginsIn c.add_roots.new.paths) (PathsOfRoots Here rs)) c.as_slice.ensures.items more)) c.add_roots.ensures.added;
}
