use Rattle.std.proofs.Common.{◌+◌, ◌*◌}
use Rattle.program_notation.proofs.expressions.+reading.Given as goal

abbrev pub decreases-part : goal.decreases-part
decreases-part l = 3 * l.nesting

abbrev pub decreases-operation : goal.decreases-operation
decreases-operation l = 3 * l.nesting + 2

abbrev pub decreases-operand : goal.decreases-operand
decreases-operand l = 3 * l.nesting + 1
