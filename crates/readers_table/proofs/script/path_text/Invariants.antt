use Rattle.std.proofs.Common.{length}
use Rattle.readers_table.proofs.script.path_text.Given as goal

abbrev pub decreases-loop-written : goal.decreases-loop-written
decreases-loop-written l = length l.hops
