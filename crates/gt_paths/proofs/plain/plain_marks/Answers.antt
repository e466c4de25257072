use Rattle.gt_paths.proofs.Odd.{are_plain}
use Rattle.gt_paths.proofs.plain.plain_marks.Goals as goal

pub returns : goal.returns
returns c = record {
  plain = are_plain c.args.program.now c.in_ok-odd.odd.keys c.in_ok-found.found.keys c.in_ok-marks.marks c.in_ok-odd.ensures.odd c.in_ok-found.ensures.above c.in_ok-marks.ensures.marks;
}
