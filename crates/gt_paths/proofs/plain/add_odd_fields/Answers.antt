use Rattle.gt_paths.proofs.Odd.{held_all, held_next, held_none}
use Rattle.gt_paths.proofs.plain.add_odd_fields.Goals as goal

pub loop-f-init : goal.loop-f-init
loop-f-init c = held_none c.args.program.now c.args.odd.now.keys

pub loop-f-preserved : goal.loop-f-preserved
loop-f-preserved c =
    held_next c.args.program.now c.args.odd.now.keys c.loop-f.odd.keys c.add_odd_field.new.odd.keys c.args.fields.now c.loop-f.f-index c.f-item.result c.loop-f-test.true c.f-item.is c.loop-f.invariant
    c.in_ok-add_odd_field.ensures.added

pub returns : goal.returns
returns c = record { added = held_all c.args.program.now c.args.odd.now.keys c.loop-f.odd.keys c.args.fields.now c.loop-f.f-index c.loop-f-test.false c.loop-f.invariant }
