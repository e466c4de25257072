use Rattle.gt_parse.proofs.ItemsLemmas.{item-alone}
use Rattle.gt_parse.proofs.laws.one_outcome.Goals as goal

pub returns : goal.returns
returns c = item-alone
