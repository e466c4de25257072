use Rattle.gt_tree.proofs.WriteSame.{write-one, record-write-one}
use Rattle.gt_tree.proofs.writes.writes_are_one.Goals as goal

pub returns-clause-value : goal.returns-clause-value
returns-clause-value c = write-one

pub returns-clause-statics : goal.returns-clause-statics
returns-clause-statics c = record-write-one
