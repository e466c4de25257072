use Rattle.gt_tree.specs.Trees.{End}
use Rattle.value_notation.specs.Blocks.{blocks}
use Rattle.record_table.proofs.blocks.element_of.Goals as goal

pub write_element-requires-clause-fits : goal.write_element-requires-clause-fits
write_element-requires-clause-fits c = (End, (c.in_ok-nothing.ensures.zero blocks End).fits)
