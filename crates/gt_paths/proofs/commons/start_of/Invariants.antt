use Rattle.std.proofs.Common.{take}
use Rattle.gt_paths.specs.Starts.{IsStartOf}
use Rattle.gt_paths.proofs.commons.start_of.Given as goal

abbrev pub invariant-loop-f : goal.invariant-loop-f
invariant-loop-f l = IsStartOf l.program (take l.f-index l.fields) l.start
