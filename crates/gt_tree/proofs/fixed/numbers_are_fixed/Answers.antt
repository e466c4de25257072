use Rattle.gt_tree.proofs.FixedBits.{numbers-fixed}
use Rattle.gt_tree.proofs.fixed.numbers_are_fixed.Goals as goal

pub returns : goal.returns
returns c = numbers-fixed
