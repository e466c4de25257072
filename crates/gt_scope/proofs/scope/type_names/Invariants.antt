use Rattle.gt_scope.specs.Kinds.{names_in}
use Rattle.gt_scope.proofs.TargetLemmas.{NamedSoFar}
use Rattle.gt_scope.proofs.scope.type_names.Given as goal

abbrev pub invariant-loop-place : goal.invariant-loop-place
invariant-loop-place l = NamedSoFar l.typedefs (names_in l.tags) l.meant l.types.items l.place
