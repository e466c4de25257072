use Rattle.gt_unions.specs.Beginnings.{Begins}
use Rattle.gt_paths.proofs.Meetings.{Joining}
use Rattle.gt_paths.proofs.Trails.{Walking}
use Rattle.gt_paths.proofs.starts.join.Given as goal

abbrev pub invariant-structs : goal.invariant-structs
invariant-structs l = Walking l.program (Begins l.program l.b) l.counter l.at × Joining l.program l.fn.a l.b l.at
