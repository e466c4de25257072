use Rattle.gt_paths.proofs.ByStep.{read_in}
use Rattle.gt_paths.proofs.Containing.{listed_more}
use Rattle.gt_paths.proofs.containers.Containers.of_program.Goals as goal

pub loop-place-preserved : goal.loop-place-preserved
loop-place-preserved c =
    listed_more c.args.program.now c.loop-place.place c.s-item.result c.as_slice.result.now c.loop-place.made c.add_fields.new.self
    (read_in c.args.program.now c.as_slice-s-items.result.now c.loop-place.place c.s-item.result c.as_slice-s-items.ensures.items c.loop-place-test.true c.s-item.is) c.as_slice.ensures.items
    c.loop-place.invariant c.in_ok-add_fields.ensures.added
