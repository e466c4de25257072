use Rattle.std.proofs.Common.{◌≡◌, true, rules}
use Rattle.gt_mark.proofs.Final.{above_zero}
use Rattle.sample_heap.specs.Named.{HasMarkOf}
use Rattle.sample_heap.proofs.Marked.{up_to_end, up_to_next, up_to_start}
use Rattle.sample_heap.proofs.conditions.all_known.Goals as goal

pub loop-init : goal.loop-init
loop-init c = up_to_start (HasMarkOf c.args.known.now.slots) c.args.pages.now.slots c.sound.ensures.laid.rising (above_zero c.args.pages.now c.sound.ensures.laid)

pub returns-in-None : goal.returns-in-None
returns-in-None c = λ _. up_to_end (HasMarkOf c.args.known.now.slots) c.args.pages.now.slots c.sound.ensures.laid.rising c.loop.after c.loop.invariant c.in-None.ensures.next

pub loop-preserved : goal.loop-preserved
loop-preserved c =
    let holds : c.is_known.result ≡ true = search rules in
    up_to_next (HasMarkOf c.args.known.now.slots) c.args.pages.now.slots c.sound.ensures.laid.rising c.loop.after c.in-Some.addr c.in-Some.walk c.in-Some.count c.loop.invariant c.in-Some.ensures.next (c.is_known.ensures holds)
