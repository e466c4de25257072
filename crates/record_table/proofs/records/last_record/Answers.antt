use Rattle.value_notation.specs.Blocks.{blocks}
use Rattle.record_table.proofs.records.last_record.Goals as goal

pub write_roots-requires-clause-fits : goal.write_roots-requires-clause-fits
write_roots-requires-clause-fits c = let zero = c.in_ok-nothing.ensures.zero in (zero.0, zero.1, (zero.2 blocks).fits)
