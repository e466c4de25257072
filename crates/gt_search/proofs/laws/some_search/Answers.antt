use Rattle.gt_search.proofs.Searched.{some_search}
use Rattle.gt_search.proofs.laws.some_search.Goals as goal

pub returns : goal.returns
returns c = some_search
