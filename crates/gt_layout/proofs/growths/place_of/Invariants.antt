use Rattle.std.proofs.Common.{◌-◌}
use Rattle.gt_layout.proofs.Growing.{IsBetween}
use Rattle.gt_layout.proofs.growths.place_of.Given as goal

abbrev pub decreases-loop-low : goal.decreases-loop-low
decreases-loop-low l = l.high - l.low

abbrev pub invariant-loop-low : goal.invariant-loop-low
invariant-loop-low l = IsBetween l.elem_size l.tails l.low l.high
