use Rattle.gt_tree.proofs.FixedBits.{leaves-read}
use Rattle.gt_tree.proofs.fixed.leaves_are_read.Goals as goal

pub returns : goal.returns
returns c = leaves-read
