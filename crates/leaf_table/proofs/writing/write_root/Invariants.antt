use Rattle.gt_space.specs.Range.{KeepsAddresses}
use Rattle.gt_tree.specs.Trees.{Trees}
use Rattle.gt_leaf.specs.Writing.{StaticsStandBeside}
use Rattle.value_notation.specs.Blocks.{blocks}
use Rattle.leaf_table.proofs.writing.write_root.Given as goal

abbrev pub invariant-loop-write : goal.invariant-loop-write
invariant-loop-write l = KeepsAddresses l.fn.space l.space × (values : Trees) × StaticsStandBeside l.on.program l.on.layouts blocks l.space values
