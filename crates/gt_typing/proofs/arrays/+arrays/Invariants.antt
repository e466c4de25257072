use Rattle.std.proofs.Common.{length}
use Rattle.gt_typing.proofs.arrays.+arrays.Given as goal

abbrev pub decreases-arrays : goal.decreases-arrays
decreases-arrays l = length l.bounds.now
