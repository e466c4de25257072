use Rattle.sample_heap.proofs.Ready.{can_each}
use Rattle.sample_heap.proofs.heap.can_mark.Goals as goal

pub returns-then-are_known : goal.returns-then-are_known
returns-then-are_known c = λ ready.
    can_each c.args.tables.now c.args.space.now c.args.known.now.slots c.args.pages.now.slots c.args.starts.now c.sound.ensures.laid.rising (c.are_known.ensures c.if-are_known.true) (c.is_ready.ensures ready)
