use Rattle.gt_tree.specs.Blocks.{Nodes}
use Rattle.value_table.proofs.finding.try_value.Goals as goal

pub last_value-requires-clause-element : goal.last_value-requires-clause-element
last_value-requires-clause-element c = (Nodes c.args.id, c.requires.stands, c.requires.element)

pub find_stored-requires-clause-element : goal.find_stored-requires-clause-element
find_stored-requires-clause-element c = (Nodes c.args.id, c.requires.stands, c.requires.element)
