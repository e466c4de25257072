use Rattle.gt_parse.proofs.ItemsLemmas.{item-allowed}
use Rattle.gt_parse.proofs.laws.each_rule.Goals as goal

pub returns : goal.returns
returns c = item-allowed
