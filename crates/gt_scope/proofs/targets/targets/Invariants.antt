use Rattle.gt_scope.specs.Kinds.{names_in}
use Rattle.gt_scope.proofs.TargetLemmas.{SoFar}
use Rattle.gt_scope.proofs.targets.targets.Given as goal

abbrev pub invariant-loop-place : goal.invariant-loop-place
invariant-loop-place l = SoFar l.defined l.typedefs l.declarations (names_in l.tags) l.targets.items l.last l.place
