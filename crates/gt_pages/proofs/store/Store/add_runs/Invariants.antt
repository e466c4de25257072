use Rattle.std.proofs.Common.{drop}
use Rattle.gt_pages.specs.Parts.{parts_of}
use Rattle.gt_pages.proofs.RunLemmas.{RunsLeft}
use Rattle.gt_pages.proofs.store.Store.add_runs.Given as goal

abbrev pub invariant-loop-run : goal.invariant-loop-run
invariant-loop-run l = RunsLeft (parts_of l.fn.self) l.first l.runs (drop l.run-index l.runs) (parts_of l.self)
