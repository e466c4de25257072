use Rattle.gt_starts.specs.Paths.{BeginsIn}
use Rattle.gt_leaf.specs.Seeking.{AllInside}
use Rattle.gt_leaf.proofs.Gaining.{all-gained}
use Rattle.gt_leaf.proofs.seeking.paths_inside.Goals as goal

pub returns : goal.returns
returns c = record {
  paths = all-gained (BeginsIn c.new-paths.result) (BeginsIn c.add_inside.new.paths) (AllInside c.args.program.now) c.new-paths.ensures.none c.in_ok-add_inside.ensures.added;
}
