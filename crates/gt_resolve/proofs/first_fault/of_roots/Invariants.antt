use Rattle.std.proofs.Common.{◌≡◌, drop}
use Rattle.gt_resolve.specs.Faults.{roots_faults}
use Rattle.gt_drafts.specs.FirstFaults.{first_from}
use Rattle.gt_resolve.proofs.first_fault.of_roots.Given as goal

-- the earliest of the faults of so many roots and of those of the others is the earliest of all
abbrev pub invariant-loop-place : goal.invariant-loop-place
invariant-loop-place l =
    first_from l.earliest (roots_faults l.tails l.place (drop l.place l.roots)) ≡ first_from l.initial.earliest (roots_faults l.tails 0 l.roots)
