use Rattle.gt_tree.proofs.Known.{value-placed, elements-placed}
use Rattle.gt_tree.proofs.Placed.{record-placed}
use Rattle.gt_tree.proofs.laws.leaves_are_apart.Goals as goal

pub returns-clause-value : goal.returns-clause-value
returns-clause-value c = value-placed

pub returns-clause-elements : goal.returns-clause-elements
returns-clause-elements c = elements-placed

pub returns-clause-statics : goal.returns-clause-statics
returns-clause-statics c = record-placed
