use Rattle.std.proofs.Common.{◌<◌, ◌≤◌, ◌∙◌, length, refl, sym, subst, arith}
use Rattle.std.proofs.lemmas.List.{take_all}
use Rattle.gt_graph.specs.Kept.{CachesStay}
use Rattle.gt_reach.specs.Following.{CachesHadTurns}
use Rattle.gt_reach.proofs.Pairing.{as_many_caches, cache_had, cache_there}
use Rattle.gt_reach.proofs.turns.follow_caches.Goals as goal

pub loop-cache-init : goal.loop-cache-init
loop-cache-init c = record {
  turns = λ heap values is are traced. record { after = values; stay = CachesStay.no_cache; traced = traced };
  pairs = refl;
  heap = λ heap is. is;
  bytes = refl;
}

pub follow_pairs-requires-clause-there : goal.follow_pairs-requires-clause-there
follow_pairs-requires-clause-there c =
    let r = c.requires.ready in
    let many =
    as_many_caches c.args.schema.now.program c.args.schema.now.layouts c.loop-cache.objects r.0 (c.loop-cache.invariant.heap r.0 r.2) c.loop-cache.caches (r.3 ∙ sym c.loop-cache.invariant.pairs) in
    omega (arith, many, c.len-cache-end.ensures.items, c.loop-cache-test.true)

pub loop-cache-preserved : goal.loop-cache-preserved
loop-cache-preserved c =
    let program = c.args.schema.now.program in
    let layouts = c.args.schema.now.layouts in
    record {
      turns = λ heap values is are traced.
          let had = c.loop-cache.invariant.turns heap values is are traced in
          let now = c.loop-cache.invariant.heap heap is in
          let held = are ∙ sym c.loop-cache.invariant.pairs in
          let many = as_many_caches program layouts c.loop-cache.objects heap now c.loop-cache.caches held in
          let low : c.loop-cache.cache < length c.loop-cache.caches = omega (arith, many, c.len-cache-end.ensures.items, c.loop-cache-test.true) in
          let there = cache_there c.loop-cache.caches c.follow_pairs.new.caches c.loop-cache.cache low c.follow_pairs.ensures.pairs in
          let turns = c.follow_pairs.ensures.turns heap had.after there.0 now held had.traced there.1 in
          cache_had program c.args.schema.now.tables heap values c.loop-cache.caches c.follow_pairs.new.caches c.loop-cache.cache there.0 c.loop-cache.objects c.follow_pairs.new.objects c.loop-cache.rounds
          c.follow_pairs.new.rounds c.follow_pairs.ensures.before there.1 had turns;
      pairs = c.follow_pairs.ensures.pairs ∙ c.loop-cache.invariant.pairs;
      heap = λ heap is. c.follow_pairs.ensures.heap heap (c.loop-cache.invariant.heap heap is);
      bytes = c.follow_pairs.ensures.bytes ∙ c.loop-cache.invariant.bytes;
    }

pub returns-clause-turns : goal.returns-clause-turns
returns-clause-turns c = λ heap values is are traced.
    let many =
    as_many_caches c.args.schema.now.program c.args.schema.now.layouts c.loop-cache.objects heap (c.loop-cache.invariant.heap heap is) c.loop-cache.caches (are ∙ sym c.loop-cache.invariant.pairs) in
    let past : length c.loop-cache.caches ≤ c.loop-cache.cache = omega (arith, many, c.len-cache-end.ensures.items, c.loop-cache-test.false) in
    subst (λ cs. CachesHadTurns c.args.schema.now.program c.args.schema.now.tables heap values cs c.loop-cache.objects c.loop-cache.rounds) (take_all c.loop-cache.cache c.loop-cache.caches past)
    (c.loop-cache.invariant.turns heap values is are traced)

pub follow_pairs-requires-clause-ready : goal.follow_pairs-requires-clause-ready
follow_pairs-requires-clause-ready c =
    let r = c.requires.ready in
    let had = c.loop-cache.invariant.turns r.0 r.1 r.2 r.3 r.4 in
    (r.0, had.after, c.loop-cache.invariant.heap r.0 r.2, r.3 ∙ sym c.loop-cache.invariant.pairs, had.traced)
