use Rattle.std.proofs.Common.{◌+◌, ◌*◌, length}
use Rattle.gt_assign.proofs.parts.+placing.Given as goal

abbrev pub decreases-with_part : goal.decreases-with_part
decreases-with_part l = 2 * length l.path.now

abbrev pub decreases-with_part_of : goal.decreases-with_part_of
decreases-with_part_of l = 2 * length l.path.now + 1
