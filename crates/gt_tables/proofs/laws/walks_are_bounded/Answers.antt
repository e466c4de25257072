use Rattle.gt_tables.proofs.Bounds.{bounded, bounded-all}
use Rattle.gt_tables.proofs.laws.walks_are_bounded.Goals as goal

pub returns : goal.returns
returns c = record { told = bounded; whatever_is_read = bounded-all }
