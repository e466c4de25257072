use Rattle.std.proofs.Common.{◌-◌}
use Rattle.gt_walk.specs.ByRows.{run_edges, element_edges}
use Rattle.gt_walk.proofs.Taking.{Went}
use Rattle.gt_walk.proofs.visiting.visit_block.Given as goal

abbrev pub invariant-loop : goal.invariant-loop
invariant-loop g l =
    let gives = element_edges l.source.tables.now l.source.space.now l.rows in
    Went g.S.EdgeSink.takes g.S.EdgeSink.leaves l.initial.sink (run_edges gives l.elements.place l.elements.size l.elements.n) l.sink (run_edges gives l.place l.elements.size (l.elements.n - l.counter))
