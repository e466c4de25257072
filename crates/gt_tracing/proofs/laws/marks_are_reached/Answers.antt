use Rattle.gt_tracing.proofs.Reaching.{marks_are_reached}
use Rattle.gt_tracing.proofs.laws.marks_are_reached.Goals as goal

pub returns : goal.returns
returns c = marks_are_reached
