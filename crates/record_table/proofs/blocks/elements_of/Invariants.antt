use Rattle.std.proofs.Common.{map}
use Rattle.gt_tree.specs.Fits.{EachFits}
use Rattle.gt_tree.specs.Scopes.{outside}
use Rattle.gt_tree.specs.Trees.{End}
use Rattle.gt_value.specs.Values.{trees, tree_of}
use Rattle.value_notation.specs.Blocks.{blocks}
use Rattle.record_table.proofs.blocks.elements_of.Given as goal

abbrev pub invariant-loop-word : goal.invariant-loop-word
invariant-loop-word l = EachFits l.on.program blocks 0 (outside End) l.ty (trees (map tree_of l.elements.items))
