use Rattle.std.proofs.Common.{length}
use Rattle.record_table.proofs.records.+write_roots.Given as goal

abbrev pub decreases-write_roots : goal.decreases-write_roots
decreases-write_roots l = length l.writes.now
