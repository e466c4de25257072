use Rattle.std.proofs.Common.{length}
use Rattle.heap_table.proofs.blocks.+are_bytes.Given as goal

abbrev pub decreases-are_bytes : goal.decreases-are_bytes
decreases-are_bytes l = length l.values.now
