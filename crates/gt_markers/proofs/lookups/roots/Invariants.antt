use Rattle.std.proofs.Common.{◌≡◌, [], drop}
use Rattle.gt_markers.specs.Lookups.{roots_from}
use Rattle.gt_markers.proofs.lookups.roots.Given as goal

abbrev pub invariant-loop-place : goal.invariant-loop-place
invariant-loop-place l = roots_from l.made l.place (drop l.place l.roots) ≡ roots_from [] 0 l.roots
