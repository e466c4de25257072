use Rattle.gt_determined.proofs.Goods.{states-stay-good}
use Rattle.gt_determined.proofs.laws.good_states_stay_good.Goals as goal

pub returns : goal.returns
returns c = states-stay-good
