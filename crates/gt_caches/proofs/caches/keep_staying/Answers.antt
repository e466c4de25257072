use Rattle.std.proofs.Common.{◌<◌, length, arith}
use Rattle.gt_caches.proofs.Sweeps.{sweep-one}
use Rattle.gt_caches.proofs.Totals.{part-of-all, total-fewer}
use Rattle.gt_caches.proofs.caches.keep_staying.Goals as goal

pub overflow_add-dropped : goal.overflow_add-dropped
overflow_add-dropped c =
    let within : c.loop-cache.cache-index < length c.loop-cache.caches = omega arith in
    let part = part-of-all c.loop-cache.caches c.loop-cache.cache-index c.cache-item.result within in
    omega (arith, part, c.requires.few, c.loop-cache.invariant.dropped, c.keep_staying-dropped.ensures.dropped)

pub loop-cache-preserved : goal.loop-cache-preserved
loop-cache-preserved c =
    let within : c.loop-cache.cache-index < length c.loop-cache.caches = omega arith in
    record {
      swept = sweep-one c.loop-cache.caches c.args.caches.now c.loop-cache.cache-index c.keep_staying-dropped.new.self c.cache-item.result c.loop-cache-test.true c.loop-cache.invariant.swept c.keep_staying-dropped.ensures.kept;
      dropped = total-fewer c.loop-cache.caches c.loop-cache.cache-index c.loop-cache.dropped c.keep_staying-dropped.result _ c.keep_staying-dropped.new.self c.cache-item.result within c.loop-cache.invariant.dropped c.keep_staying-dropped.ensures.dropped;
    }
