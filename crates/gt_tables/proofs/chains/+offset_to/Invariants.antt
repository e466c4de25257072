use Rattle.std.proofs.Common.{length}
use Rattle.gt_tables.proofs.chains.+offset_to.Given as goal

abbrev pub decreases-offset_to : goal.decreases-offset_to
decreases-offset_to l = length l.places.now
