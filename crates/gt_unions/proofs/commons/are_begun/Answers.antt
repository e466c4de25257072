use Rattle.std.specs.Prelude.{IsTrue}
use Rattle.gt_types.specs.Unions.{may_be_active, BeginsWith}
use Rattle.gt_types.specs.declared.program.Field.{Field}
use Rattle.gt_unions.proofs.Lists.{all_more, all_seen, one_fails}
use Rattle.gt_unions.proofs.commons.are_begun.Goals as goal

pub loop-f-preserved : goal.loop-f-preserved
loop-f-preserved c =
    all_more (λ (x : Field). IsTrue (may_be_active x.active) → BeginsWith c.args.program.now x.ty c.args.node) c.args.fields.now c.loop-f.f-index c.f-item.result c.loop-f-test.true c.f-item.is c.loop-f.invariant
    (c.is_begun.ensures.0 c.if-not-is_begun.false)

pub returns-then-not-is_begun : goal.returns-then-not-is_begun
returns-then-not-is_begun c =
    one_fails (λ (x : Field). IsTrue (may_be_active x.active) → BeginsWith c.args.program.now x.ty c.args.node) c.args.fields.now c.loop-f.f-index c.f-item.result c.is_begun.result c.loop-f-test.true c.f-item.is c.is_begun.ensures c.if-not-is_begun.true

pub returns : goal.returns
returns c = all_seen (λ (x : Field). IsTrue (may_be_active x.active) → BeginsWith c.args.program.now x.ty c.args.node) c.args.fields.now c.loop-f.f-index c.loop-f-test.false c.loop-f.invariant
