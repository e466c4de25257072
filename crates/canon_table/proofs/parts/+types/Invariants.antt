use Rattle.std.proofs.Common.{◌+◌, ◌*◌}
use Rattle.canon_table.proofs.parts.+types.Given as goal

abbrev pub decreases-type_part : goal.decreases-type_part
decreases-type_part l = 3 * l.nesting

abbrev pub decreases-type_by : goal.decreases-type_by
decreases-type_by l = 3 * l.nesting + 2

abbrev pub decreases-element : goal.decreases-element
decreases-element l = 3 * l.nesting + 1
