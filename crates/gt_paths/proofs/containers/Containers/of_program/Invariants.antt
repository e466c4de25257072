use Rattle.gt_paths.proofs.Containing.{ListedBefore}
use Rattle.gt_paths.proofs.containers.Containers.of_program.Given as goal

abbrev pub invariant-loop-place : goal.invariant-loop-place
invariant-loop-place l = ListedBefore l.program l.place l.made
