use Rattle.gt_tree.specs.Blocks.{Nodes}
use Rattle.value_table.proofs.trials.store_and_show.Goals as goal

pub store_and_read-requires-clause-element : goal.store_and_read-requires-clause-element
store_and_read-requires-clause-element c = (Nodes c.args.id, c.requires.stands, c.requires.element)
