use Rattle.std.proofs.Common.{◌∙◌, sym}
use Rattle.gt_reach.proofs.Tracing.{key_reached, key_unreached, single_object}
use Rattle.gt_reach.proofs.turns.follow_pair.Goals as goal

pub marked-requires : goal.marked-requires
marked-requires c =
    let r = c.requires.ready in
    let o = single_object r.0.graph.objects c.args.pair.key r.2 r.6 in
    record { there = (c.args.schema.now.program, c.args.schema.now.layouts, r.0, o.0, r.4, o.1) }

pub returns-then-not-marked-clause-turn : goal.returns-then-not-marked-clause-turn
returns-then-not-marked-clause-turn c = λ heap values key value is t key_single value_single. (
  key_unreached c.args.schema.now.program c.args.schema.now.tables heap values c.args.objects.now c.args.rounds.now t c.args.pair.key key key_single
      (let says = c.marked.ensures.marked in let not_so = c.if-not-marked.true in cc),
  t,
)

pub mark_from_value-requires : goal.mark_from_value-requires
mark_from_value-requires c = let r = c.requires.ready in record { schema = c.requires.schema; ready = (r.0, r.1, r.3, r.4, r.5, r.7) }

pub returns-clause-turn : goal.returns-clause-turn
returns-clause-turn c = λ heap values key value is t key_single value_single. (
  key_reached c.args.schema.now.program c.args.schema.now.tables heap values c.args.objects.now c.args.rounds.now t c.args.pair.key key key_single
      (let says = c.marked.ensures.marked in let so = c.if-not-marked.false in cc),
  c.mark_from_value.ensures.traced heap values value is t value_single,
)
