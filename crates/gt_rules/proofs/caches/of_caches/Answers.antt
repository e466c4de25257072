use Rattle.std.proofs.Common.{length, ap, arith}
use Rattle.gt_rules.specs.Parts.{CacheFault}
use Rattle.gt_rules.proofs.FirstLemmas.{first_below_more, first_below_none, first_of_each}
use Rattle.gt_rules.proofs.MadeLemmas.{read_at}
use Rattle.gt_rules.proofs.caches.of_caches.Goals as goal

pub loop-cache-init : goal.loop-cache-init
loop-cache-init c = let draft = c.args.known.draft.now in first_below_none draft.caches (λ k cache. CacheFault c.args.known.draft.now c.args.known.program.now cache) c.args.earliest

pub loop-cache-preserved : goal.loop-cache-preserved
loop-cache-preserved c =
    let draft = c.args.known.draft.now in
    let i = c.loop-cache.cache-index in
    first_below_more draft.caches (λ k cache. CacheFault c.args.known.draft.now c.args.known.program.now cache) i c.cache-item.result c.args.earliest c.loop-cache.earliest c.of_cache-earliest.result
    (read_at c.as_slice-cache-items.result.now draft.caches i c.cache-item.result c.as_slice-cache-items.ensures.items (omega arith) c.cache-item.is) c.loop-cache.invariant c.of_cache-earliest.ensures.first

pub returns : goal.returns
returns c =
    let draft = c.args.known.draft.now in
    record {
      first =
          first_of_each draft.caches (λ k cache. CacheFault c.args.known.draft.now c.args.known.program.now cache) c.loop-cache.cache-index c.args.earliest c.loop-cache.earliest (omega (arith, ap length c.as_slice-cache-items.ensures.items))
          c.loop-cache.invariant;
    }
