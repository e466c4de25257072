use Rattle.gt_tree.proofs.OneList.{value-one_list, elements-one_list, record-one_list}
use Rattle.gt_tree.proofs.laws.leaves_are_one_list.Goals as goal

pub returns-clause-value : goal.returns-clause-value
returns-clause-value c = value-one_list

pub returns-clause-elements : goal.returns-clause-elements
returns-clause-elements c = elements-one_list

pub returns-clause-statics : goal.returns-clause-statics
returns-clause-statics c = record-one_list
