use Rattle.std.proofs.Common.{length}
use Rattle.heap_table.proofs.blocks.+ends_in_zero.Given as goal

abbrev pub decreases-ends_in_zero : goal.decreases-ends_in_zero
decreases-ends_in_zero l = length l.values.now
