use Rattle.std.proofs.Common.{subst}
use Rattle.gt_types.specs.declared.expressions.Base.TheVariants.{Here, Outer}
use Rattle.gt_sets.specs.Sets.{IsIn}
use Rattle.gt_starts.specs.Paths.{BeginsIn}
use Rattle.gt_leaf.specs.Seeking.{Gains, PathsOfCounts, PathsOfDescs, PathsOfUnions}
use Rattle.gt_leaf.proofs.ExprPaths.{on-ok}
use Rattle.gt_leaf.proofs.SeekLemmas.{gains-structure}
use Rattle.gt_leaf.proofs.seeking.add_structure.Goals as goal

pub returns : goal.returns
returns c =
    let here = IsIn c.in_ok-here.here.value in
    let outers = IsIn c.in_ok-outers.outers.value in
    let descs = subst (λ fs. Gains (BeginsIn c.add_own.new.paths) (BeginsIn c.add_descs.new.paths) (PathsOfDescs Outer here fs)) c.as_slice.ensures.items c.in_ok-add_descs.ensures.added in
    let unions = subst (λ fs. Gains (BeginsIn c.add_descs.new.paths) (BeginsIn c.add_unions.new.paths) (PathsOfUnions Here fs)) c.as_slice-2.ensures.items c.in_ok-add_unions.ensures.added in
    record {
      added = on-ok c.add_counts.result
          (λ more. gains-structure c.args.program.now c.args.node c.args.s.now here outers (BeginsIn c.args.paths.now) (BeginsIn c.add_own.new.paths) (BeginsIn c.add_descs.new.paths) (BeginsIn c.add_unions.new.paths) (BeginsIn c.add_counts.new.paths) c.in_ok-here.ensures.one c.in_ok-outers.ensures.containers c.in_ok-add_own.ensures.added descs unions
          (subst (λ fs. Gains (BeginsIn c.add_unions.new.paths) (BeginsIn c.add_counts.new.paths) (PathsOfCounts Outer outers fs)) c.as_slice-3.ensures.items more)) c.add_counts.ensures.added;
    }
