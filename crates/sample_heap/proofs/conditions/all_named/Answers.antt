use Rattle.std.proofs.Common.{◌≡◌, true, rules}
use Rattle.gt_mark.proofs.Final.{above_zero}
use Rattle.gt_walk.specs.Rows.{edges_of}
use Rattle.sample_heap.specs.Named.{AllName}
use Rattle.sample_heap.proofs.Marked.{up_to_end, up_to_next, up_to_start}
use Rattle.sample_heap.proofs.conditions.all_named.Goals as goal

pub loop-init : goal.loop-init
loop-init c = up_to_start (λ a walk count. AllName c.args.known.now.slots c.args.pages.now.slots (edges_of c.args.tables.now walk count c.args.space.now a)) c.args.known.now.slots c.sound.ensures.laid.rising (above_zero c.args.known.now c.sound.ensures.laid)

pub returns-in-None : goal.returns-in-None
returns-in-None c = λ _. up_to_end (λ a walk count. AllName c.args.known.now.slots c.args.pages.now.slots (edges_of c.args.tables.now walk count c.args.space.now a)) c.args.known.now.slots c.sound.ensures.laid.rising c.loop.after c.loop.invariant c.in-None.ensures.next

pub loop-preserved : goal.loop-preserved
loop-preserved c =
    let holds : c.are_named.result ≡ true = search rules in
    up_to_next (λ a walk count. AllName c.args.known.now.slots c.args.pages.now.slots (edges_of c.args.tables.now walk count c.args.space.now a)) c.args.known.now.slots c.sound.ensures.laid.rising c.loop.after c.in-Some.addr c.in-Some.walk c.in-Some.count c.loop.invariant c.in-Some.ensures.next (c.are_named.ensures holds)
