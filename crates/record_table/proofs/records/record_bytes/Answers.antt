use Rattle.value_notation.specs.Blocks.{blocks}
use Rattle.value_notation.specs.Addresses.{addresses}
use Rattle.record_table.proofs.records.record_bytes.Goals as goal

pub store_statics-requires-clause-fits : goal.store_statics-requires-clause-fits
store_statics-requires-clause-fits c = let p = c.requires.fits in (p.0, p.1, record { blocks = blocks; addresses = addresses; fit = p.2 })
