use Rattle.std.proofs.Common.{length}
use Rattle.gt_leaf.proofs.reads.Reads.+is_read_around.Given as goal

abbrev pub decreases-is_read_around : goal.decreases-is_read_around
decreases-is_read_around l = length l.path.now
