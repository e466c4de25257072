use Rattle.gt_paths.specs.Marks.{IsRow}
use Rattle.gt_paths.proofs.Marking.{zip_pushed, zip_same}
use Rattle.gt_paths.proofs.commons.step_rows.Goals as goal

pub loop-s-preserved : goal.loop-s-preserved
loop-s-preserved c =
    zip_pushed (IsRow c.args.program.now) c.as_slice-s-items.result.now c.loop-s.s-index c.s-item.result c.loop-s.rows.items c.push.new.self.items c.in_ok-row_of.field-0 c.loop-s-test.true c.s-item.is
    c.in_ok-push.ensures.items c.loop-s.invariant c.in_ok-row_of.ensures.row

pub returns : goal.returns
returns c = record {
  rows = zip_same (IsRow c.args.program.now) c.as_slice-s-items.result.now c.args.program.now.structures c.loop-s.s-index c.loop-s.rows.items c.of.result c.loop-s-test.false c.as_slice-s-items.ensures.items c.of.ensures.items
      c.loop-s.invariant;
}
