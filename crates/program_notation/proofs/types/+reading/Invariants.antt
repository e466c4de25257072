use Rattle.std.proofs.Common.{◌+◌, ◌*◌}
use Rattle.program_notation.proofs.types.+reading.Given as goal

abbrev pub decreases-part : goal.decreases-part
decreases-part l = 2 * l.nesting

abbrev pub decreases-element : goal.decreases-element
decreases-element l = 2 * l.nesting + 1
