use Rattle.edges_table.proofs.FewFields.{few-fields}
use Rattle.edges_table.proofs.kinds.standing.Goals as goal

pub new-requires-clause-fields : goal.new-requires-clause-fields
new-requires-clause-fields c = few-fields c.args.on.now.program c.requires.ground.settled
