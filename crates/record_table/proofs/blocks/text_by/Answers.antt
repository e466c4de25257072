use Rattle.std.proofs.Common.{map, subst}
use Rattle.gt_tree.specs.Fits.{EachFits}
use Rattle.gt_tree.specs.Scopes.{outside}
use Rattle.gt_tree.specs.Trees.{End}
use Rattle.gt_value.specs.Names.{kind_of}
use Rattle.gt_value.specs.Values.{trees, tree_of}
use Rattle.value_notation.specs.Blocks.{blocks}
use Rattle.record_table.proofs.blocks.text_by.Goals as goal

pub elements_of-requires-clause-element : goal.elements_of-requires-clause-element
elements_of-requires-clause-element c = (kind_of c.args.kind, c.requires.holds, c.requires.element)

pub text_of-requires-clause-each : goal.text_of-requires-clause-each
text_of-requires-clause-each c = subst (λ t. EachFits c.args.on.now.program blocks 0 (outside End) t (trees (map tree_of c.in_ok-elements.elements.items))) c.requires.element c.in_ok-elements.ensures.each
