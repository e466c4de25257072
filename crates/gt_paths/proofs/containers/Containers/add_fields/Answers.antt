use Rattle.gt_paths.proofs.Containing.{adds_all, adds_next, adds_none}
use Rattle.gt_paths.proofs.containers.Containers.add_fields.Goals as goal

pub loop-f-init : goal.loop-f-init
loop-f-init c = adds_none c.args.self.now c.args.outer

pub loop-f-preserved : goal.loop-f-preserved
loop-f-preserved c =
    adds_next c.args.self.now c.loop-f.self c.add_field.new.self c.args.outer c.args.fields.now c.loop-f.f-index c.f-item.result c.loop-f-test.true c.f-item.is c.loop-f.invariant c.in_ok-add_field.ensures.added

pub returns : goal.returns
returns c = record { added = adds_all c.args.self.now c.loop-f.self c.args.outer c.args.fields.now c.loop-f.f-index c.loop-f-test.false c.loop-f.invariant }
