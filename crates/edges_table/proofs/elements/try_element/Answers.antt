use Rattle.gt_tree.specs.Trees.{End}
use Rattle.value_notation.specs.Blocks.{blocks}
use Rattle.edges_table.proofs.elements.try_element.Goals as goal

pub write_all-requires-clause-fits : goal.write_all-requires-clause-fits
write_all-requires-clause-fits c = (End, (c.in_ok-nothing.ensures.zero blocks End).fits)
