use Rattle.std.proofs.Common.{length}
use Rattle.gt_paths.proofs.Odd.{all_marked, begin_marks, marked_pushed}
use Rattle.gt_paths.proofs.plain.mark_others.Goals as goal

pub loop-place-init : goal.loop-place-init
loop-place-init c = begin_marks c.args.found.now.keys c.new-marks.result.items c.new-marks.ensures.items

pub loop-place-preserved : goal.loop-place-preserved
loop-place-preserved c =
    marked_pushed c.args.found.now.keys c.loop-place.place-counter c.loop-place.marks.items c.push.new.self.items c.contains.result c.in_ok-push.ensures.items c.contains.ensures c.loop-place.invariant

pub returns : goal.returns
returns c = record {
  marks = all_marked c.args.found.now.keys c.loop-place.place-counter c.len-place-end.result (length c.args.program.now.structures) c.loop-place.marks.items c.of.result c.of.ensures.items
      c.len-place-end.ensures.items c.loop-place-test.false c.loop-place.auto.place-counter-end c.loop-place.invariant;
}
