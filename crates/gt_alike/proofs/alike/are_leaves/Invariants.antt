use Rattle.std.proofs.Common.{◌≡◌, length}
use Rattle.gt_alike.proofs.alike.are_leaves.Given as goal

abbrev pub invariant-pairs : goal.invariant-pairs
invariant-pairs l = record {
  equal : l.here ≡ l.there → l.fn.one ≡ l.fn.other;
  parts : l.fn.one ≡ l.fn.other → l.here ≡ l.there;
}

abbrev pub decreases-pairs : goal.decreases-pairs
decreases-pairs l = length l.here
