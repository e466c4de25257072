use Rattle.std.proofs.Common.{length}
use Rattle.record_table.proofs.blocks.+write_element.Given as goal

abbrev pub decreases-write_element : goal.decreases-write_element
decreases-write_element l = length l.writes.now
