use Rattle.gt_schema.proofs.schema.Fielded.of.Goals as goal

pub returns : goal.returns
returns c = record { fields = c.in_ok-fields.ensures.fields; reads = c.in_ok-reads.ensures.table; tables = c.in_ok-tables.ensures.tables }
