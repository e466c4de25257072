use Rattle.gt_leaf.proofs.UnreadLaws.{unread-elements, unread-statics}
use Rattle.gt_leaf.proofs.laws.unread_leaves_keep_values_fitting.Goals as goal

pub returns-clause-elements : goal.returns-clause-elements
returns-clause-elements c = unread-elements

pub returns-clause-statics : goal.returns-clause-statics
returns-clause-statics c = unread-statics
