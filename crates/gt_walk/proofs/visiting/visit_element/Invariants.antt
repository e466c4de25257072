use Rattle.std.proofs.Common.{drop}
use Rattle.gt_walk.specs.ByRows.{element_edges}
use Rattle.gt_walk.proofs.Taking.{Went}
use Rattle.gt_walk.proofs.visiting.visit_element.Given as goal

abbrev pub invariant-loop-row : goal.invariant-loop-row
invariant-loop-row g l =
    Went g.S.EdgeSink.takes g.S.EdgeSink.leaves l.initial.sink (element_edges l.tables l.space l.rows l.addr) l.sink (element_edges l.tables l.space (drop l.row-index l.rows) l.addr)
