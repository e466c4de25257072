use Rattle.gt_asking.proofs.WholeBlocks.{one-more-element}
use Rattle.gt_asking.proofs.blocks.read_elements.Goals as goal

pub loop-place-preserved : goal.loop-place-preserved
loop-place-preserved c =
    let schema = c.args.schema.now in
    one-more-element schema.program schema.layouts c.args.objects.now c.args.addr c.loop-place.place c.loop-place.values.items c.in_ok-value.value c.loop-place.invariant c.in_ok-value.ensures.value c.push.new.self.items c.in_ok-push.ensures.items
