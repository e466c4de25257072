use Rattle.gt_objects.proofs.Counts.{none_counted}
use Rattle.gt_objects.proofs.totals.Totals.none.Goals as goal

pub returns : goal.returns
returns c = none_counted
