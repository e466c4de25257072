use Rattle.std.proofs.Common.{◌≡◌, take}
use Rattle.gt_drafts.specs.FirstFaults.{first_from}
use Rattle.gt_markers.specs.KindSets.{AreKindsOf}
use Rattle.gt_markers.specs.Sites.{marker_faults}
use Rattle.gt_markers.specs.SiteViews.{site_of}
use Rattle.gt_markers.proofs.MarkerLemmas.{rest_faults}
use Rattle.gt_markers.proofs.marker_faults.of_marker.Given as goal

-- The earliest of the faults of so many options and of those of the others is the earliest of all; the kinds so far are theirs.
abbrev pub invariant-loop-option : goal.invariant-loop-option
invariant-loop-option l =
    record {
      found :
          first_from l.earliest (rest_faults l.draft (site_of l.marker.site) l.marker.file l.option-index l.marker.options.now)
          ≡ first_from l.initial.earliest (marker_faults l.draft (site_of l.marker.site) l.marker.file l.marker.options.now);
      kinds : AreKindsOf (take l.option-index l.marker.options.now) l.before;
    }
