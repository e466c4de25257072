use Rattle.gt_unions.proofs.Starts.{Reached, Alike}
use Rattle.gt_unions.proofs.beginnings.begins_with.Given as goal

abbrev pub invariant-structs : goal.invariant-structs
invariant-structs l = Reached l.program l.counter l.fn.outer l.at × Alike l.program l.node l.fn.outer l.at
