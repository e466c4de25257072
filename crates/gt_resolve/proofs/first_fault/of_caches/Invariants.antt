use Rattle.std.proofs.Common.{◌≡◌, drop}
use Rattle.gt_resolve.specs.Faults.{caches_faults}
use Rattle.gt_drafts.specs.FirstFaults.{first_from}
use Rattle.gt_resolve.proofs.first_fault.of_caches.Given as goal

-- the earliest of the faults of so many caches and of those of the others is the earliest of all
abbrev pub invariant-loop-place : goal.invariant-loop-place
invariant-loop-place l =
    first_from l.earliest (caches_faults l.place (drop l.place l.caches)) ≡ first_from l.initial.earliest (caches_faults 0 l.caches)
