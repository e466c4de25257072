use Rattle.gt_tree.proofs.FixedElements.{value-fixed, elements-fixed}
use Rattle.gt_tree.proofs.FixedRecord.{record-fixed}
use Rattle.gt_tree.proofs.fixed.values_are_fixed.Goals as goal

pub returns-clause-value : goal.returns-clause-value
returns-clause-value c = value-fixed

pub returns-clause-elements : goal.returns-clause-elements
returns-clause-elements c = elements-fixed

pub returns-clause-statics : goal.returns-clause-statics
returns-clause-statics c = record-fixed
