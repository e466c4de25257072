use Rattle.std.proofs.Common.{ℕ, List}
use Rattle.gt_names.specs.declared.tables.Entry.{Entry}
use Rattle.gt_scope.specs.declared.declaration.What.{What}
use Rattle.gt_scope.specs.Repeats.{AreTargets}
use Rattle.gt_scope.proofs.TargetLemmas.{LinksSoFar}
use Rattle.gt_scope.proofs.targets.links.Given as goal

abbrev pub invariant-loop-place : goal.invariant-loop-place
invariant-loop-place l =
    (defined : List (Entry What)) (tags : List (List ℕ)) → AreTargets defined l.typedefs tags l.declarations l.targets
    → LinksSoFar defined l.typedefs tags l.made.items l.place
