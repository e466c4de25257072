use Rattle.std.proofs.Common.{ap, option_copied}
use Rattle.gt_sets.specs.Sets.{IsIn}
use Rattle.gt_starts.specs.Paths.{BeginsIn}
use Rattle.gt_leaf.specs.Seeking.{IsOne}
use Rattle.gt_leaf.proofs.ExprPaths.{on-ok}
use Rattle.gt_leaf.proofs.SeekLemmas.{gains-some}
use Rattle.gt_leaf.proofs.seeking.add_at.Goals as goal

pub returns-in_ok-begins-in-Some : goal.returns-in_ok-begins-in-Some
returns-in_ok-begins-in-Some c = record {
  added = on-ok c.add_expr.result
      (gains-some c.args.base (IsIn c.in_ok-begins-in-Some.begins.value) (IsOne c.args.union.0) (option_copied c.args.desc) c.in-Some.desc.now (BeginsIn c.args.paths.now) (BeginsIn c.add_expr.new.paths) (ap option_copied c.in-Some.is) c.in_ok-begins-in-Some.ensures.one)
      c.add_expr.ensures.added;
}
