use Rattle.gt_pages.proofs.CountLemmas.{none_counted}
use Rattle.gt_pages.proofs.totals.MarkedTotals.none.Goals as goal

pub returns : goal.returns
returns c = none_counted
