use Rattle.gt_search.proofs.Searched.{one_search}
use Rattle.gt_search.proofs.laws.one_search.Goals as goal

pub returns : goal.returns
returns c = one_search
