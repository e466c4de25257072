use Rattle.std.proofs.Common.{length}
use Rattle.gt_starts.proofs.ways.+node_on_way.Given as goal

abbrev pub decreases-node_on_way : goal.decreases-node_on_way
decreases-node_on_way l = length l.path.now
