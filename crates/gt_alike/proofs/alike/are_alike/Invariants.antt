use Rattle.std.proofs.Common.{length}
use Rattle.gt_alike.specs.Alike.{Pairs, IsAlike}
use Rattle.gt_alike.proofs.alike.are_alike.Given as goal

abbrev pub invariant-pairs : goal.invariant-pairs
invariant-pairs l = record {
  equal : Pairs IsAlike l.here l.there → Pairs IsAlike l.fn.one l.fn.other;
  parts : Pairs IsAlike l.fn.one l.fn.other → Pairs IsAlike l.here l.there;
}

abbrev pub decreases-pairs : goal.decreases-pairs
decreases-pairs l = length l.here
