use Rattle.gt_tree.proofs.WriteZeros.{zero-one, zero-record-one}
use Rattle.gt_tree.proofs.writes.zero_is_one.Goals as goal

pub returns-clause-value : goal.returns-clause-value
returns-clause-value c = zero-one

pub returns-clause-statics : goal.returns-clause-statics
returns-clause-statics c = zero-record-one
