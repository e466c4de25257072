use Rattle.std.proofs.Common.{length}
use Rattle.value_notation.proofs.leaves.read_bytes.Given as goal

abbrev pub decreases-loop-left : goal.decreases-loop-left
decreases-loop-left l = length l.left
