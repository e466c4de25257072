use Rattle.gt_tree.specs.Blocks.{Nodes}
use Rattle.value_table.proofs.repeats.repeat_of.Goals as goal

pub last_value-requires-clause-element : goal.last_value-requires-clause-element
last_value-requires-clause-element c = (Nodes c.args.id, c.requires.stands, c.requires.element)

pub repeat_with-requires-clause-element : goal.repeat_with-requires-clause-element
repeat_with-requires-clause-element c = (Nodes c.args.id, c.requires.stands, c.requires.element)
