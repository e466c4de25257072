use Rattle.std.proofs.Common.{◌<◌, ℕ}
use Rattle.gt_layout.specs.Progress.{IsLargeAt}
use Rattle.gt_layout.proofs.layouts.first_too_large.Given as goal

abbrev pub invariant-loop-place : goal.invariant-loop-place
invariant-loop-place l = (other : ℕ) → other < l.place → ¬ IsLargeAt l.program l.known other
