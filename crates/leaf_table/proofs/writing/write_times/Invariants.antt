use Rattle.gt_space.specs.Range.{KeepsAddresses}
use Rattle.gt_tree.specs.Trees.{Tree, Trees}
use Rattle.gt_leaf.specs.Writing.{StandsBeside}
use Rattle.value_notation.specs.Blocks.{blocks}
use Rattle.leaf_table.proofs.writing.write_times.Given as goal

abbrev pub invariant-loop-write : goal.invariant-loop-write
invariant-loop-write l = KeepsAddresses l.fn.space l.space × (statics : Trees) × (value : Tree) × StandsBeside l.on.program l.on.layouts blocks statics l.capacity l.ty l.space l.addr value
