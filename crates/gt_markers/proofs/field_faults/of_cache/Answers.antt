use Rattle.std.proofs.Common.{◌≡◌, ◌∙◌, ap}
use Rattle.gt_drafts.specs.FirstFaults.{first_from}
use Rattle.gt_markers.specs.Sites.{at_cache, marker_faults}
use Rattle.gt_markers.proofs.Firsts.{if_ok}
use Rattle.gt_markers.proofs.field_faults.of_cache.Goals as goal

pub returns : goal.returns
returns c =
    let draft = c.args.draft.now in
    let cache = c.args.cache.now in
    record {
      earliest =
          if_ok c.of_marker.result (λ r. r ≡ first_from c.args.earliest (marker_faults draft at_cache cache.file c.as_slice.result.now))
          (λ r. r ≡ first_from c.args.earliest (marker_faults draft at_cache cache.file cache.options))
          (λ r h. h ∙ ap (λ os. first_from c.args.earliest (marker_faults draft at_cache cache.file os)) c.as_slice.ensures.items) c.of_marker.ensures.earliest;
    }
