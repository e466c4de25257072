use Rattle.std.proofs.Common.{◌-◌, ◌≤◌}
use Rattle.gt_bits.specs.Places.{AreStarts}
use Rattle.gt_bits.proofs.places.starts_of.Given as goal

abbrev pub invariant-steps : goal.invariant-steps
invariant-steps l = (1 ≤ l.len) × (l.len ≤ l.n) × AreStarts l.word l.len l.starts

abbrev pub decreases-steps : goal.decreases-steps
decreases-steps l = l.n - l.len
