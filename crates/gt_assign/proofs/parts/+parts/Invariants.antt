use Rattle.std.proofs.Common.{◌+◌, ◌*◌, length}
use Rattle.gt_assign.proofs.parts.+parts.Given as goal

abbrev pub decreases-part_at : goal.decreases-part_at
decreases-part_at l = 2 * length l.path.now

abbrev pub decreases-part_of : goal.decreases-part_of
decreases-part_of l = 2 * length l.path.now + 1
