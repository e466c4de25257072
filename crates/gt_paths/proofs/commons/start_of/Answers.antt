use Rattle.gt_paths.proofs.Meetings.{all_members, next_member, no_members}
use Rattle.gt_paths.proofs.commons.start_of.Goals as goal

pub loop-f-init : goal.loop-f-init
loop-f-init c = no_members c.args.program.now

pub loop-f-preserved : goal.loop-f-preserved
loop-f-preserved c =
    next_member c.args.program.now c.args.fields.now c.loop-f.f-index c.f-item.result c.loop-f.start c.start_with-start.result c.loop-f-test.true c.f-item.is c.loop-f.invariant c.start_with-start.ensures.next

pub returns : goal.returns
returns c = record { start = all_members c.args.program.now c.args.fields.now c.loop-f.f-index c.loop-f.start c.loop-f-test.false c.loop-f.invariant }
