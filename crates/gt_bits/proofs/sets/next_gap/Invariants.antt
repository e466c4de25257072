use Rattle.std.proofs.Common.{◌-◌, ◌≤◌}
use Rattle.gt_bits.specs.Sets.{HoldsAll}
use Rattle.gt_bits.proofs.sets.next_gap.Given as goal

abbrev pub invariant-words : goal.invariant-words
invariant-words l = (l.from ≤ l.at) × HoldsAll l.words l.from l.at

abbrev pub decreases-words : goal.decreases-words
decreases-words l = l.end - l.at
