use Rattle.gt_script.proofs.FormsSpelled.{line_is, line_reads}
use Rattle.gt_script.proofs.laws.lines_as_spelled.Goals as goal

pub returns : goal.returns
returns c = record { again = line_reads; taken = line_is }
