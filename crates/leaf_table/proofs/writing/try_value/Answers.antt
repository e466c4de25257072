use Rattle.gt_tree.specs.Blocks.{Nodes}
use Rattle.leaf_table.proofs.writing.try_value.Goals as goal

pub last_value-requires-clause-element : goal.last_value-requires-clause-element
last_value-requires-clause-element c = (Nodes c.args.id, c.requires.stands, c.requires.element)

pub write_stored-requires-clause-element : goal.write_stored-requires-clause-element
write_stored-requires-clause-element c = (Nodes c.args.id, c.requires.stands, c.requires.element)
