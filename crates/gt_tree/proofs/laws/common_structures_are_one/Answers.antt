use Rattle.gt_tree.proofs.Commons.{one-common}
use Rattle.gt_tree.proofs.laws.common_structures_are_one.Goals as goal

pub returns : goal.returns
returns c program settled node s common other = one-common program node s common other settled
