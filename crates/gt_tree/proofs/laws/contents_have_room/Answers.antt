use Rattle.gt_tree.proofs.Contents.{value-room, elements-room, record-room}
use Rattle.gt_tree.proofs.laws.contents_have_room.Goals as goal

pub returns-clause-value : goal.returns-clause-value
returns-clause-value c = value-room

pub returns-clause-elements : goal.returns-clause-elements
returns-clause-elements c = elements-room

pub returns-clause-statics : goal.returns-clause-statics
returns-clause-statics c = record-room
