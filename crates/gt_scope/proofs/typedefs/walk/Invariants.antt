use Rattle.std.proofs.Common.{reverse}
use Rattle.gt_scope.specs.declared.link.Target.TheVariants.{Next}
use Rattle.gt_scope.specs.Chains.{IsWalk}
use Rattle.gt_scope.proofs.ChainLemmas.{unknown_count}
use Rattle.gt_scope.proofs.typedefs.walk.Given as goal

abbrev pub invariant-walk : goal.invariant-walk
invariant-walk l = IsWalk l.links l.start (reverse l.way.items) l.memo.items (Next l.at)

abbrev pub decreases-walk : goal.decreases-walk
decreases-walk l = unknown_count l.memo.items
