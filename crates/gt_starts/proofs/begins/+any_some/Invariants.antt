use Rattle.std.proofs.Common.{length}
use Rattle.gt_starts.proofs.begins.+any_some.Given as goal

abbrev pub decreases-any_some : goal.decreases-any_some
decreases-any_some l = length l.sets.now
