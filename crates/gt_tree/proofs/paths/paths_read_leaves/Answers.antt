use Rattle.gt_tree.proofs.PathReads.{paths-read}
use Rattle.gt_tree.proofs.paths.paths_read_leaves.Goals as goal

pub returns : goal.returns
returns c = paths-read
