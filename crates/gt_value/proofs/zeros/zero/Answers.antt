use Rattle.gt_tree.specs.Trees.{Trees}
use Rattle.gt_tree.specs.Blocks.{Blocks}
use Rattle.gt_tree.specs.Fits.{IsZeroOf}
use Rattle.gt_value.specs.Values.{tree_of}
use Rattle.gt_value.specs.Noughts.{IsNought}
use Rattle.gt_value.proofs.ZeroValues.{element-held, element-zero, element-nought, weaker}
use Rattle.gt_value.proofs.zeros.zero.Goals as goal

pub zero_of-requires-clause-shallow : goal.zero_of-requires-clause-shallow
zero_of-requires-clause-shallow c = element-held c.args.program.now c.requires.settled c.args.ty.now c.requires.element

pub returns-clause-zero : goal.returns-clause-zero
returns-clause-zero c =
    weaker (λ v. IsNought c.args.program.now c.args.capacity c.args.ty.now (tree_of v))
    (λ v. (blocks : Blocks) (statics : Trees) → IsZeroOf c.args.program.now blocks statics c.args.capacity c.args.ty.now (tree_of v)) c.zero_of.result
    (λ v h. element-zero c.args.program.now c.requires.settled c.args.capacity c.args.ty.now (tree_of v) c.requires.element h) c.zero_of.ensures.zero

pub returns-clause-shape : goal.returns-clause-shape
returns-clause-shape c fail blocks statics tree z =
    c.zero_of.ensures.shape fail tree (element-nought c.args.program.now c.requires.settled c.args.capacity c.args.ty.now tree c.requires.element blocks statics z)
