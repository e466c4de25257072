use Rattle.std.proofs.Common.{◌≡◌, drop}
use Rattle.std.specs.Prelude.{flat_map}
use Rattle.gt_drafts.specs.FirstFaults.{first_from}
use Rattle.gt_markers.specs.MarkerFaults.{structure_faults}
use Rattle.gt_markers.proofs.draft_faults.of_structures.Given as goal

abbrev pub invariant-loop-structure : goal.invariant-loop-structure
invariant-loop-structure l =
    first_from l.earliest (flat_map (structure_faults l.draft) (drop l.structure-index l.structures)) ≡ first_from l.initial.earliest (flat_map (structure_faults l.draft) l.structures)
