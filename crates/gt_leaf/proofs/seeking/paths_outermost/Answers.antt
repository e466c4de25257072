use Rattle.gt_starts.specs.Paths.{BeginsIn}
use Rattle.gt_leaf.specs.Seeking.{AllOutermost}
use Rattle.gt_leaf.proofs.Gaining.{all-gained}
use Rattle.gt_leaf.proofs.seeking.paths_outermost.Goals as goal

pub returns : goal.returns
returns c = record {
  paths = all-gained (BeginsIn c.new-paths.result) (BeginsIn c.add_outermost.new.paths) (AllOutermost c.args.program.now) c.new-paths.ensures.none c.in_ok-add_outermost.ensures.added;
}
