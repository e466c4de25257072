use Rattle.gt_tracing.proofs.Starting.{can_be_marked}
use Rattle.gt_tracing.proofs.laws.heaps_can_be_marked.Goals as goal

pub returns : goal.returns
returns c = can_be_marked
