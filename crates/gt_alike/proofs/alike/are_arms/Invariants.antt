use Rattle.std.proofs.Common.{length}
use Rattle.gt_alike.specs.Alike.{Pairs, IsSameArm}
use Rattle.gt_alike.proofs.alike.are_arms.Given as goal

abbrev pub invariant-pairs : goal.invariant-pairs
invariant-pairs l = record {
  equal : Pairs IsSameArm l.here l.there → Pairs IsSameArm l.fn.one l.fn.other;
  parts : Pairs IsSameArm l.fn.one l.fn.other → Pairs IsSameArm l.here l.there;
}

abbrev pub decreases-pairs : goal.decreases-pairs
decreases-pairs l = length l.here
