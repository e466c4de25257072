use Rattle.gt_tracing.proofs.Rounds.{rounds_agree}
use Rattle.gt_tracing.proofs.laws.rounds_agree.Goals as goal

pub returns : goal.returns
returns c = rounds_agree
