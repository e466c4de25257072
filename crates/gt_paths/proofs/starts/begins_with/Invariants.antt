use Rattle.std.proofs.Common.{◌≡◌}
use Rattle.gt_paths.proofs.Meetings.{Alike}
use Rattle.gt_paths.proofs.Trails.{Walking}
use Rattle.gt_paths.proofs.starts.begins_with.Given as goal

abbrev pub invariant-structs : goal.invariant-structs
invariant-structs l = Walking l.program (λ x. x ≡ l.node) l.counter l.at × Alike l.program l.node l.fn.outer l.at
