use Rattle.std.proofs.Common.{sym, arith, ◌∙◌}
use Rattle.gt_unions.specs.Beginnings.{HoldsPlain}
use Rattle.gt_unions.proofs.Plains.{by_fields, fields_shallow, plain_struct}
use Rattle.gt_unions.proofs.Lists.{all_more, all_seen, one_fails}
use Rattle.gt_unions.proofs.plain.+plain.Goals as goal

pub all_hold_plain-loop-f-preserved : goal.all_hold_plain-loop-f-preserved
all_hold_plain-loop-f-preserved t c = (
  all_more (HoldsPlain c.args.program.now) c.args.fields.now c.loop-f.f-index c.f-item.result c.loop-f-test.true c.f-item.is c.loop-f.invariant.0 (c.holds_plain.ensures.plain.0 c.if-not-holds_plain.false),
  c.holds_plain.ensures.known,
)

pub all_hold_plain-returns-then-not-holds_plain-clause-plain : goal.all_hold_plain-returns-then-not-holds_plain-clause-plain
all_hold_plain-returns-then-not-holds_plain-clause-plain t c =
    one_fails (HoldsPlain c.args.program.now) c.args.fields.now c.loop-f.f-index c.f-item.result c.holds_plain.result c.loop-f-test.true c.f-item.is c.holds_plain.ensures.plain
    c.if-not-holds_plain.true

pub all_hold_plain-returns-clause-plain : goal.all_hold_plain-returns-clause-plain
all_hold_plain-returns-clause-plain t c = all_seen (HoldsPlain c.args.program.now) c.args.fields.now c.loop-f.f-index c.loop-f-test.false c.loop-f.invariant.0

pub look_inside-all_hold_plain-requires : goal.look_inside-all_hold_plain-requires
look_inside-all_hold_plain-requires t c =
    (omega arith, (fields_shallow c.args.program.now c.args.node c.args.depth c.in-Some.s.now c.as_slice-2.result.now (sym c.in-Some.ensures) c.as_slice-2.ensures.items c.requires.shallow, c.requires.known))

pub look_inside-returns-clause-plain : goal.look_inside-returns-clause-plain
look_inside-returns-clause-plain t c =
    by_fields c.args.program.now c.args.node c.in-Some.s.now c.as_slice-2.result.now c.all_hold_plain.result (sym c.in-Some.ensures)
    (plain_struct c.args.program.now c.args.node c.in-Some.s.now c.as_slice.result.now c.tail_of.result (sym c.in-Some.ensures) c.if-s.false (sym c.is_some.ensures ∙ c.if-is_some.false) c.tail_of.ensures c.as_slice.ensures.items) c.as_slice-2.ensures.items
    c.all_hold_plain.ensures.plain
