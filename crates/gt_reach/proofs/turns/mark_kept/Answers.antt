use Rattle.std.proofs.Common.{◌∙◌, sym, subst}
use Rattle.std.specs.Prelude.{[]}
use Rattle.gt_graph.specs.Kept.{CachesStay}
use Rattle.gt_caches.specs.Pairs.{staying}
use Rattle.gt_reach.proofs.Tracing.{traced_marked}
use Rattle.gt_reach.proofs.turns.mark_kept.Goals as goal

pub follow_caches-requires-clause-ready : goal.follow_caches-requires-clause-ready
follow_caches-requires-clause-ready c =
    let r = c.requires.ready in
    (r.0, [], c.mark_from_roots-rounds.ensures.heap r.0 r.1, r.2, c.mark_from_roots-rounds.ensures.traced r.0 r.1)

pub returns-clause-heap : goal.returns-clause-heap
returns-clause-heap c = λ heap is. c.follow_caches.ensures.heap heap (c.mark_from_roots-rounds.ensures.heap heap is)

pub returns-clause-kept : goal.returns-clause-kept
returns-clause-kept c = λ heap is held.
    let turns = c.follow_caches.ensures.turns heap [] (c.mark_from_roots-rounds.ensures.heap heap is) held (c.mark_from_roots-rounds.ensures.traced heap is) in
    record {
      values = turns.after;
      stay = subst (λ pairs. CachesStay c.args.schema.now.program heap.graph [] pairs (staying c.follow_caches.new.caches) turns.after) (c.follow_caches.ensures.pairs ∙ sym held) turns.stay;
      marked = traced_marked c.args.schema.now.program c.args.schema.now.tables heap turns.after c.follow_caches.new.objects c.follow_caches.new.rounds turns.traced;
    }
