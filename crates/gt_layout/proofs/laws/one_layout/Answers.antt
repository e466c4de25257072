use Rattle.gt_layout.proofs.Ideal as ideal
use Rattle.gt_layout.proofs.laws.one_layout.Goals as goal

pub returns : goal.returns
returns c program settled = ideal.one_layout program settled
