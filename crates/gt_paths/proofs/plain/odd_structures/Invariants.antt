use Rattle.gt_paths.proofs.Odd.{OddBefore}
use Rattle.gt_paths.proofs.plain.odd_structures.Given as goal

abbrev pub invariant-loop-place : goal.invariant-loop-place
invariant-loop-place l = OddBefore l.program l.place l.odd.keys
