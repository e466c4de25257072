use Rattle.std.proofs.Common.{length}
use Rattle.heap_table.proofs.pairs.+are_singles.Given as goal

abbrev pub decreases-are_singles : goal.decreases-are_singles
decreases-are_singles l = length l.pairs.now
