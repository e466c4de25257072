use Rattle.std.proofs.Common.{◌≡◌, ◌<◌, ℕ, length}
use Rattle.gt_layout.specs.Progress.{AreFound, IsFound}
use Rattle.gt_layout.proofs.growths.growths_of.Given as goal

abbrev pub invariant-loop-place : goal.invariant-loop-place
invariant-loop-place l = record {
  all : length l.known.items ≡ length l.program.structures;
  right : AreFound l.program l.planes l.known.items;
  found : (other : ℕ) → other < l.place → IsFound l.known.items other;
}
