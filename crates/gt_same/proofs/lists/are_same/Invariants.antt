use Rattle.std.proofs.Common.{◌≡◌, length}
use Rattle.gt_same.proofs.lists.are_same.Given as goal

abbrev pub invariant-pairs : goal.invariant-pairs
invariant-pairs g l = record {
  equal : l.here ≡ l.there → l.initial.one ≡ l.initial.other;
  parts : l.initial.one ≡ l.initial.other → l.here ≡ l.there;
}

abbrev pub decreases-pairs : goal.decreases-pairs
decreases-pairs g l = length l.here
