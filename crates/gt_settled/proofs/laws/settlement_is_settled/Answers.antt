use Rattle.gt_settled.proofs.Whole as whole
use Rattle.gt_settled.proofs.laws.settlement_is_settled.Goals as goal

pub returns : goal.returns
returns c = record { settled = λ draft program sound is. whole.settled draft program sound is }
