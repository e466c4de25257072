use Rattle.std.proofs.Common.{subst}
use Rattle.gt_sets.specs.Sets.{IsIn}
use Rattle.gt_starts.specs.Paths.{BeginsIn}
use Rattle.gt_leaf.specs.Seeking.{Gains, PathsOfSome, PathsOfCounts}
use Rattle.gt_leaf.proofs.ExprPaths.{on-ok}
use Rattle.gt_leaf.proofs.SeekLemmas.{gains-own}
use Rattle.gt_leaf.proofs.seeking.add_own.Goals as goal

pub returns : goal.returns
returns c =
    let begins = IsIn c.args.begins.now.value in
    let counts = subst (λ fs. Gains (BeginsIn c.args.paths.now) (BeginsIn c.add_counts.new.paths) (PathsOfCounts c.args.base begins fs)) c.as_slice.ensures.items c.in_ok-add_counts.ensures.added in
    record {
      added = on-ok c.add_option.result
          (λ more. gains-own c.args.base begins c.args.s.now (BeginsIn c.args.paths.now) (BeginsIn c.add_counts.new.paths) (BeginsIn c.add_option.new.paths) counts
          (subst (λ o. Gains (BeginsIn c.add_counts.new.paths) (BeginsIn c.add_option.new.paths) (PathsOfSome c.args.base begins o)) c.as_ref.ensures.value more)) c.add_option.ensures.added;
    }
