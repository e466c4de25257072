use Rattle.std.proofs.Common.{◌≡◌, drop}
use Rattle.gt_resolve.specs.Faults.{structures_faults}
use Rattle.gt_drafts.specs.FirstFaults.{first_from}
use Rattle.gt_resolve.proofs.first_fault.of_structures.Given as goal

-- the earliest of the faults of so many structures and of those of the others is the earliest of all
abbrev pub invariant-loop-place : goal.invariant-loop-place
invariant-loop-place l =
    first_from l.earliest (structures_faults l.shapes.cyclic.items l.shapes.deep.items l.shapes.tails.items l.place (drop l.place l.structures))
    ≡ first_from l.initial.earliest (structures_faults l.shapes.cyclic.items l.shapes.deep.items l.shapes.tails.items 0 l.structures)
