use Rattle.gt_total.proofs.Goods.{stays_good}
use Rattle.gt_total.proofs.laws.good_states_stay_good.Goals as goal

pub returns : goal.returns
returns c program layouts is_read s t command a = stays_good program layouts (c.good_states_stay_good.ensures program layouts is_read) s t command a
