use Rattle.std.proofs.Common.{◌+◌, refl}
use Rattle.gt_paths.proofs.Outermost.{free_more, lacks}
use Rattle.gt_paths.proofs.outer_paths.not_inner.Goals as goal

pub ids-preserved : goal.ids-preserved
ids-preserved c =
    free_more c.args.index.now.inner c.args.set.now c.ids.from c.in-Some.id (c.in-Some.id + 1) c.ids.starts.items c.add_free.new.starts.items c.in-Some.ensures.next.held
    (λ j reached below. lacks (c.in-Some.ensures.next.least j reached below)) c.in-Some.ensures.next.reached refl c.in_ok-add_free.ensures.added c.ids.invariant
