use Rattle.heap_table.proofs.FewFields.{few-fields}
use Rattle.heap_table.proofs.grounds.Ground.new.Goals as goal

pub new-requires-clause-fields : goal.new-requires-clause-fields
new-requires-clause-fields c = few-fields _ c.in_ok-program.ensures.settled
