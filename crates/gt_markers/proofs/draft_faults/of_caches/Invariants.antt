use Rattle.std.proofs.Common.{◌≡◌, drop}
use Rattle.std.specs.Prelude.{flat_map}
use Rattle.gt_drafts.specs.FirstFaults.{first_from}
use Rattle.gt_markers.specs.MarkerFaults.{cache_faults}
use Rattle.gt_markers.proofs.draft_faults.of_caches.Given as goal

abbrev pub invariant-loop-cache : goal.invariant-loop-cache
invariant-loop-cache l =
    first_from l.earliest (flat_map (cache_faults l.draft) (drop l.cache-index l.caches)) ≡ first_from l.initial.earliest (flat_map (cache_faults l.draft) l.caches)
