use Rattle.std.proofs.Common.{subst}
use Rattle.gt_types.specs.declared.expressions.Base.TheVariants.{Outermost}
use Rattle.gt_sets.specs.Sets.{IsIn}
use Rattle.gt_starts.specs.Paths.{BeginsIn}
use Rattle.gt_leaf.specs.Seeking.{Gains, PathsOfDescs}
use Rattle.gt_leaf.proofs.ExprPaths.{on-ok}
use Rattle.gt_leaf.proofs.SeekLemmas.{gains-outer_structure}
use Rattle.gt_leaf.proofs.seeking.add_outer_structure.Goals as goal

pub returns : goal.returns
returns c =
    let outers = IsIn c.in_ok-outers.outers.now.value in
    record {
      added = on-ok c.add_descs.result
          (λ more. gains-outer_structure c.args.program.now c.args.node c.args.s.now outers (BeginsIn c.args.paths.now) (BeginsIn c.add_own.new.paths) (BeginsIn c.add_descs.new.paths) c.in_ok-outers.ensures.outers c.in_ok-add_own.ensures.added
          (subst (λ fs. Gains (BeginsIn c.add_own.new.paths) (BeginsIn c.add_descs.new.paths) (PathsOfDescs Outermost outers fs)) c.as_slice.ensures.items more)) c.add_descs.ensures.added;
    }
