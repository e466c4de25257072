use Rattle.gt_script.proofs.Settled.{lines_are, stop_is}
use Rattle.gt_script.proofs.parsing.parse_lines.Goals as goal

pub returns-in-Ok : goal.returns-in-Ok
returns-in-Ok c = record { lines = lines_are c.args.text.now c.in-Ok.lines c.in-Ok.ensures; fault = tt }

pub returns : goal.returns
returns c = record { lines = tt; fault = stop_is c.args.text.now c.in-Err.stop c.in-Err.ensures }
