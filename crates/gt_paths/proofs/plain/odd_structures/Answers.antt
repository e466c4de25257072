use Rattle.gt_paths.proofs.ByStep.{read_in}
use Rattle.gt_paths.proofs.Odd.{all_odd, odd_more}
use Rattle.gt_paths.proofs.plain.odd_structures.Goals as goal

pub loop-place-preserved : goal.loop-place-preserved
loop-place-preserved c =
    odd_more c.args.program.now c.loop-place.place c.s-item.result c.as_slice.result.now c.loop-place.odd.keys c.add_odd.new.odd.keys c.add_odd_fields.new.odd.keys
    (read_in c.args.program.now c.as_slice-s-items.result.now c.loop-place.place c.s-item.result c.as_slice-s-items.ensures.items c.loop-place-test.true c.s-item.is) c.as_slice.ensures.items
    c.loop-place.invariant c.in_ok-add_odd.ensures.added c.in_ok-add_odd_fields.ensures.added

pub returns : goal.returns
returns c = record {
  odd = all_odd c.args.program.now c.as_slice-s-items.result.now c.loop-place.place c.loop-place.odd.keys c.as_slice-s-items.ensures.items c.loop-place-test.false c.loop-place.invariant;
}
