use Rattle.std.proofs.Common.{◌+◌, ◌*◌}
use Rattle.canon_table.proofs.parts.+expressions.Given as goal

abbrev pub decreases-expression_part : goal.decreases-expression_part
decreases-expression_part l = 3 * l.nesting

abbrev pub decreases-expression_by : goal.decreases-expression_by
decreases-expression_by l = 3 * l.nesting + 2

abbrev pub decreases-operand : goal.decreases-operand
decreases-operand l = 3 * l.nesting + 1
