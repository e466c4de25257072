use Rattle.gt_shapes.specs.Cycles.{FirstSoFar}
use Rattle.gt_shapes.proofs.containment.first_deep.Given as goal

-- the first of so many structures
abbrev pub invariant-loop-place : goal.invariant-loop-place
invariant-loop-place l = FirstSoFar l.structures l.deep l.place l.first
