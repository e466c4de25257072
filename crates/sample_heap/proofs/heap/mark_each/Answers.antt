use Rattle.std.proofs.Common.{◌<◌, length, rules}
use Rattle.std.proofs.lemmas.List.Elements.{Contains-get_or}
use Rattle.sample_heap.proofs.heap.mark_each.Goals as goal

pub mark_known-more-requires : goal.mark_known-more-requires
mark_known-more-requires c =
    let low : c.loop-addr.addr-index < length c.args.starts.now = search rules in
    record { ready = c.loop-addr.invariant _ (Contains-get_or c.args.starts.now c.loop-addr.addr-index 0 low) }

pub loop-addr-preserved : goal.loop-addr-preserved
loop-addr-preserved c = c.mark_known-more.ensures.can c.args.starts.now c.loop-addr.invariant
