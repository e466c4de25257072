use Rattle.std.proofs.Common.{length}
use Rattle.heap_table.proofs.pairs.+has_distinct_keys.Given as goal

abbrev pub decreases-has_distinct_keys : goal.decreases-has_distinct_keys
decreases-has_distinct_keys l = length l.pairs.now
