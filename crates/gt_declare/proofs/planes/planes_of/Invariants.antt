use Rattle.gt_declare.proofs.LayingSteps.{AreLaidBelow}
use Rattle.gt_declare.proofs.planes.planes_of.Given as goal

abbrev pub invariant-loop-place : goal.invariant-loop-place
invariant-loop-place l = AreLaidBelow l.draft l.known.items l.place
