use Rattle.std.proofs.Common.{◌≤◌, ◌∙◌, length, take, refl, sym, ap, subst, arith}
use Rattle.std.proofs.lemmas.List.{take_all}
use Rattle.gt_graph.specs.Objects.{pairs_in}
use Rattle.gt_graph.specs.Kept.{PairsStay}
use Rattle.gt_caches.specs.Pairs.{pairs_of}
use Rattle.gt_reach.specs.Following.{HadTurns}
use Rattle.gt_reach.proofs.Pairing.{before_decided, entries_past, in_all, pair_here, pair_single, pairs_decided, turn_had}
use Rattle.gt_reach.proofs.turns.follow_pairs.Goals as goal

pub loop-i-init : goal.loop-i-init
loop-i-init c = record {
  turns = λ heap values entries is are traced at. record { after = values; stay = PairsStay.no_pair; traced = traced };
  before = refl;
  pairs = refl;
  heap = λ heap is. is;
  bytes = refl;
}

pub returns-in_default-clause-turns : goal.returns-in_default-clause-turns
returns-in_default-clause-turns c = λ heap values entries is are traced at.
    subst (λ es. HadTurns c.args.schema.now.program c.args.schema.now.tables heap values es c.loop-i.objects c.loop-i.rounds)
    (take_all c.loop-i.i entries (entries_past c.loop-i.caches c.args.cache c.loop-i.i entries at c.in_default.ensures.pair))
    (c.loop-i.invariant.turns heap values entries is are traced at)

pub follow_pair-stays-requires-clause-ready : goal.follow_pair-stays-requires-clause-ready
follow_pair-stays-requires-clause-ready c =
    let r = c.requires.ready in
    let here =
    pair_here c.args.caches.now c.loop-i.caches c.args.cache c.loop-i.i c.in-Some.pair.key c.in-Some.pair.value c.requires.there c.loop-i.invariant.pairs c.in-Some.ensures.pair in
    let had = c.loop-i.invariant.turns r.0 r.1 here.entries r.2 r.3 r.4 here.at in
    let is = c.loop-i.invariant.heap r.0 r.2 in
    let named =
    pair_single c.args.schema.now.program c.args.schema.now.layouts c.loop-i.objects r.0 is c.loop-i.caches (r.3 ∙ sym c.loop-i.invariant.pairs) c.args.cache c.loop-i.i c.in-Some.pair.key
    c.in-Some.pair.value here in
    (r.0, had.after, named.key_node, named.value_node, is, had.traced, named.key_single, named.value_single)

pub decide-requires : goal.decide-requires
decide-requires c =
    let here =
    pair_here c.args.caches.now c.loop-i.caches c.args.cache c.loop-i.i c.in-Some.pair.key c.in-Some.pair.value c.requires.there c.loop-i.invariant.pairs c.in-Some.ensures.pair in
    record { there = (here.entry, (here.entries, here.at, here.there)) }

pub loop-i-preserved : goal.loop-i-preserved
loop-i-preserved c =
    let program = c.args.schema.now.program in
    let layouts = c.args.schema.now.layouts in
    let key = c.in-Some.pair.key in
    let value = c.in-Some.pair.value in
    let here = pair_here c.args.caches.now c.loop-i.caches c.args.cache c.loop-i.i key value c.requires.there c.loop-i.invariant.pairs c.in-Some.ensures.pair in
    record {
      turns = λ heap values entries is are traced at.
          let had = c.loop-i.invariant.turns heap values here.entries is are traced here.at in
          let now = c.loop-i.invariant.heap heap is in
          let named = pair_single program layouts c.loop-i.objects heap now c.loop-i.caches (are ∙ sym c.loop-i.invariant.pairs) c.args.cache c.loop-i.i key value here in
          let turn = c.follow_pair-stays.ensures.turn heap had.after named.key_node named.value_node now had.traced named.key_single named.value_single in
          turn_had program c.args.schema.now.tables heap values c.loop-i.caches c.decide.new.self c.args.cache c.loop-i.i key value here c.loop-i.objects c.follow_pair-stays.new.objects c.loop-i.rounds
          c.follow_pair-stays.new.rounds c.follow_pair-stays.result c.decide.ensures.decided had turn entries at;
      before =
          ap (take c.args.cache) c.decide.ensures.decided ∙ before_decided c.loop-i.caches c.args.cache c.loop-i.i c.follow_pair-stays.result here.entries here.entry here.at here.there
          ∙ c.loop-i.invariant.before;
      pairs =
          ap pairs_of c.decide.ensures.decided ∙ pairs_decided c.loop-i.caches c.args.cache c.loop-i.i c.follow_pair-stays.result here.entries here.entry here.at here.there ∙ c.loop-i.invariant.pairs;
      heap = λ heap is. c.follow_pair-stays.ensures.heap heap (c.loop-i.invariant.heap heap is);
      bytes = c.follow_pair-stays.ensures.bytes ∙ c.loop-i.invariant.bytes;
    }

pub returns-clause-turns : goal.returns-clause-turns
returns-clause-turns c = λ heap values entries is are traced at.
    let few = in_all c.loop-i.caches c.args.cache entries at in
    let past : length entries ≤ c.loop-i.i = omega (arith, few, ap pairs_in c.loop-i.invariant.pairs, c.len-i-end.ensures.pairs, c.loop-i-test.false) in
    subst (λ es. HadTurns c.args.schema.now.program c.args.schema.now.tables heap values es c.loop-i.objects c.loop-i.rounds) (take_all c.loop-i.i entries past)
    (c.loop-i.invariant.turns heap values entries is are traced at)
