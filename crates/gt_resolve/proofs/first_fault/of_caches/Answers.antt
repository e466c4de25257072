use Rattle.std.proofs.Common.{◌∙◌, refl, arith}
use Rattle.gt_resolve.specs.Faults.{cache_faults, caches_faults}
use Rattle.gt_resolve.proofs.Firsts.{first_from_more, first_from_end}
use Rattle.gt_resolve.proofs.first_fault.of_caches.Goals as goal

pub loop-place-preserved : goal.loop-place-preserved
unfolding caches_faults
loop-place-preserved c =
    first_from_more (cache_faults) caches_faults (λ i x xs. refl) c.loop-place.earliest c.of_cache-earliest.result c.loop-place.place c.args.caches.now c.index-caches-place.result
    (omega arith) c.index-caches-place.is c.of_cache-earliest.ensures.earliest ∙ c.loop-place.invariant

pub returns : goal.returns
unfolding caches_faults
returns c =
    record {
      earliest =
          first_from_end caches_faults (λ i. refl) c.loop-place.earliest c.loop-place.place c.args.caches.now (omega arith)
          ∙ c.loop-place.invariant;
    }
