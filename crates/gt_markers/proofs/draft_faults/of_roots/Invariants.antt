use Rattle.std.proofs.Common.{◌≡◌, drop}
use Rattle.std.specs.Prelude.{flat_map}
use Rattle.gt_drafts.specs.FirstFaults.{first_from}
use Rattle.gt_markers.specs.MarkerFaults.{root_faults}
use Rattle.gt_markers.proofs.draft_faults.of_roots.Given as goal

abbrev pub invariant-loop-root : goal.invariant-loop-root
invariant-loop-root l =
    first_from l.earliest (flat_map (root_faults l.draft) (drop l.root-index l.roots)) ≡ first_from l.initial.earliest (flat_map (root_faults l.draft) l.roots)
