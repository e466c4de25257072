use Rattle.gt_schema.proofs.FewFields.{few-fields}
use Rattle.gt_schema.proofs.schema.names_of.Goals as goal

pub of-requires-clause-fields : goal.of-requires-clause-fields
of-requires-clause-fields c = few-fields c.args.program.now c.requires.settled
