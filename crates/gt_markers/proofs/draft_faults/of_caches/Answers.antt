use Rattle.std.proofs.Common.{◌∙◌, arith}
use Rattle.gt_markers.specs.MarkerFaults.{cache_faults}
use Rattle.gt_markers.proofs.Firsts.{first_from_item, first_from_items}
use Rattle.gt_markers.proofs.draft_faults.of_caches.Goals as goal

pub loop-cache-preserved : goal.loop-cache-preserved
loop-cache-preserved c =
    first_from_item (cache_faults c.args.draft.now) c.loop-cache.earliest c.in_ok-earliest.earliest c.loop-cache.cache-index c.args.caches.now c.cache-item.result
    c.loop-cache-test.true c.cache-item.is c.in_ok-earliest.ensures.earliest
    ∙ c.loop-cache.invariant

pub returns : goal.returns
returns c =
    record {
      earliest =
          first_from_items (cache_faults c.args.draft.now) c.loop-cache.earliest c.loop-cache.cache-index c.args.caches.now (omega arith) ∙ c.loop-cache.invariant;
    }
