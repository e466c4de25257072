use Rattle.std.proofs.Common.{length}
use Rattle.gt_leaf.proofs.reads.Reads.+is_read_outermost.Given as goal

abbrev pub decreases-is_read_outermost : goal.decreases-is_read_outermost
decreases-is_read_outermost l = length l.path.now
