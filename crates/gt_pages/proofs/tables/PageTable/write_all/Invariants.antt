use Rattle.gt_pages.specs.Tables.{Leads}
use Rattle.gt_pages.proofs.tables.PageTable.write_all.Given as goal

abbrev pub invariant-loop-i : goal.invariant-loop-i
invariant-loop-i l = Leads l.fn.self l.first l.i l.entry l.self
