use Rattle.std.proofs.Common.{sym, arith}
use Rattle.gt_split.proofs.Boundaries.{utf8_parts}
use Rattle.gt_split.proofs.Splits.{lines_first, lines_last, shorter, parts_taken}
use Rattle.gt_split.proofs.parts.first_line.Goals as goal

pub returns-in-None-clause-line : goal.returns-in-None-clause-line
returns-in-None-clause-line c = lines_last c.args.text.now c.requires (sym c.in-None.ensures)

pub returns-in-Some-clause-line : goal.returns-in-Some-clause-line
returns-in-Some-clause-line c = lines_first c.args.text.now (c.in-Some.parts.0.now, c.in-Some.parts.1.now) (sym c.in-Some.ensures)

pub returns-in-Some-clause-shorter : goal.returns-in-Some-clause-shorter
returns-in-Some-clause-shorter c = shorter 10 c.args.text.now (c.in-Some.parts.0.now, c.in-Some.parts.1.now) (sym c.in-Some.ensures)

pub returns-in-Some-clause-utf8 : goal.returns-in-Some-clause-utf8
returns-in-Some-clause-utf8 c =
    utf8_parts c.args.text.now c.in-Some.parts.0.now c.in-Some.parts.1.now 10 (omega arith) (parts_taken 10 c.args.text.now (c.in-Some.parts.0.now, c.in-Some.parts.1.now) (sym c.in-Some.ensures))
