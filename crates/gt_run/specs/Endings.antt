-- No promise: what the parts of a call come to. Only the functions inside the crate cite this.
use Rattle.gt_lines.specs.declared.lines.LinesEnd.{LinesEnd}
use Rattle.gt_lines.specs.declared.lines.LinesEnd.TheVariants as lines
use Rattle.gt_run.specs.declared.ending.Ending.{Ending}
use Rattle.gt_run.specs.declared.ending.Ending.TheVariants.{Finished, SinkFailed, NoMemory}

-- how the program ends, by how the lines of its script do
abbrev pub ending_of : LinesEnd → Ending
ending_of lines.Finished = Finished
ending_of lines.SinkFailed = SinkFailed
ending_of lines.NoMemory = NoMemory
