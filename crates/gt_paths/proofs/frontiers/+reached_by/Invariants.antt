use Rattle.std.proofs.Common.{length}
use Rattle.gt_paths.proofs.frontiers.+reached_by.Given as goal

abbrev pub decreases-reached_by : goal.decreases-reached_by
decreases-reached_by l = length l.prefix.now
