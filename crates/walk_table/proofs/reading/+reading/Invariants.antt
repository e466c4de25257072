use Rattle.std.proofs.Common.{◌+◌, ◌*◌}
use Rattle.walk_table.proofs.reading.+reading.Given as goal

abbrev pub decreases-read_row : goal.decreases-read_row
decreases-read_row l = 5 * l.nesting

abbrev pub decreases-element : goal.decreases-element
decreases-element l = 5 * l.nesting + 1

abbrev pub decreases-read_tail : goal.decreases-read_tail
decreases-read_tail l = 5 * l.nesting + 2

abbrev pub decreases-read_arm : goal.decreases-read_arm
decreases-read_arm l = 5 * l.nesting + 2

abbrev pub decreases-read_arms : goal.decreases-read_arms
decreases-read_arms l = 5 * l.nesting + 3

abbrev pub decreases-read_switch : goal.decreases-read_switch
decreases-read_switch l = 5 * l.nesting + 4
