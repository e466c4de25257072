use Rattle.gt_tree.proofs.Sizes.{sizes-one}
use Rattle.gt_tree.proofs.laws.sizes_are_one.Goals as goal

pub returns : goal.returns
returns c = sizes-one
