use Rattle.std.proofs.Common.{sym}
use Rattle.gt_split.proofs.Splits.{cut_here, cut_none}
use Rattle.gt_split.proofs.parts.split_once.Goals as goal

pub returns-in-None : goal.returns-in-None
returns-in-None c = sym (cut_none c.args.byte c.args.text.now (sym c.in-None.ensures))

pub returns-in-Some : goal.returns-in-Some
returns-in-Some c = cut_here c.args.byte c.args.text.now c.in-Some.at (sym c.in-Some.ensures)
