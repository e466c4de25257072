use Rattle.gt_script.proofs.TextBytes.{text_of_line, text_of_script}
use Rattle.gt_script.proofs.laws.lines_are_of_bytes.Goals as goal

pub returns : goal.returns
returns c = record { line = text_of_line; script = text_of_script }
