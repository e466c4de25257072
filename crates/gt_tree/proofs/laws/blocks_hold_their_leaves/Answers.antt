use Rattle.gt_tree.proofs.BlockPlaces.{blocks-placed}
use Rattle.gt_tree.proofs.laws.blocks_hold_their_leaves.Goals as goal

pub returns : goal.returns
returns c = blocks-placed
