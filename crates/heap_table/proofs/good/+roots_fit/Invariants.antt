use Rattle.std.proofs.Common.{length}
use Rattle.heap_table.proofs.good.+roots_fit.Given as goal

abbrev pub decreases-roots_fit : goal.decreases-roots_fit
decreases-roots_fit l = length l.values.now
