use Rattle.std.proofs.Common.{◌+◌, ◌*◌}
use Rattle.gt_assign.proofs.beginnings.+begin.Given as goal

abbrev pub decreases-begin : goal.decreases-begin
decreases-begin l = 3 * l.depth

abbrev pub decreases-begin_node : goal.decreases-begin_node
decreases-begin_node l = 3 * l.depth + 2

abbrev pub decreases-begin_struct : goal.decreases-begin_struct
decreases-begin_struct l = 3 * l.depth + 1
