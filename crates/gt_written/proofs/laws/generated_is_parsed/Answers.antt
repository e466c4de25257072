use Rattle.gt_written.proofs.Nodes.{generated}
use Rattle.gt_written.proofs.laws.generated_is_parsed.Goals as goal

pub returns : goal.returns
returns c = generated
