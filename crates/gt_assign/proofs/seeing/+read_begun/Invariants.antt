use Rattle.std.proofs.Common.{length}
use Rattle.gt_assign.proofs.seeing.+read_begun.Given as goal

abbrev pub decreases-read_begun : goal.decreases-read_begun
decreases-read_begun l = length l.steps.now
