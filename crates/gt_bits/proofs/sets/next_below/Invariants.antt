use Rattle.std.proofs.Common.{◌-◌, ◌≤◌}
use Rattle.gt_bits.specs.Sets.{HoldsNone}
use Rattle.gt_bits.proofs.sets.next_below.Given as goal

abbrev pub invariant-words : goal.invariant-words
invariant-words l = (l.from ≤ l.at) × HoldsNone l.words l.from l.at

abbrev pub decreases-words : goal.decreases-words
decreases-words l = l.end - l.at
