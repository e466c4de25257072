use Rattle.std.proofs.Common.{reverse, length}
use Rattle.gt_scope.specs.Chains.{IsWalked}
use Rattle.gt_scope.proofs.typedefs.walk_back.Given as goal

abbrev pub invariant-back : goal.invariant-back
invariant-back l = IsWalked l.links l.start (reverse l.way.items) l.memo.items l.means

abbrev pub decreases-back : goal.decreases-back
decreases-back l = length l.way.items
