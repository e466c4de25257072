use Rattle.std.proofs.Common.{◌≡◌, None, false, length, replicate, drop}
use Rattle.gt_drafts.specs.FirstFaults.{first_from}
use Rattle.gt_resolve.specs.Redefinitions.{marked_faults}
use Rattle.gt_resolve.proofs.redefined.redefinition_by_places.Given as goal

-- the earliest of the faults of so many declarations and of those after them is the earliest of all
abbrev pub invariant-loop-place : goal.invariant-loop-place
invariant-loop-place l =
    first_from l.earliest (marked_faults l.scope.declarations.items l.scope.types.items l.tags l.others l.place l.clashed.items (drop l.place l.scope.declarations.items))
    ≡ first_from None (marked_faults l.scope.declarations.items l.scope.types.items l.tags l.others 0
    (replicate (length l.scope.declarations.items) false) l.scope.declarations.items)
