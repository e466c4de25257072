use Rattle.pages_table.proofs.Runs.{MayStart}
use Rattle.pages_table.proofs.images.are_runs.Given as goal

abbrev pub invariant-loop-run : goal.invariant-loop-run
invariant-loop-run l = MayStart l.runs l.below l.run-index
