use Rattle.std.proofs.Common.{◌-◌, ap}
use Rattle.std.proofs.lemmas.List.{drop_all}
use Rattle.gt_walk.specs.Rows.{MOST_NESTED, frame_at}
use Rattle.gt_walk.specs.ByRows.{element_edges}
use Rattle.gt_walk.proofs.Taking.{went-start, went-front, went-on, went-as, went-end}
use Rattle.gt_walk.proofs.Visits.{rows-first}
use Rattle.gt_walk.proofs.visiting.visit_element.Goals as goal

pub loop-row-init : goal.loop-row-init
loop-row-init g c = went-start g.S.EdgeSink.takes g.S.EdgeSink.leaves c.args.sink.now _ c.requires.can

pub visit_element_row-requires-clause-can : goal.visit_element_row-requires-clause-can
visit_element_row-requires-clause-can g c =
    let first = rows-first c.args.tables.now c.args.space.now (MOST_NESTED - 1) c.args.rows.now c.loop-row.row-index c.row-item.result (frame_at c.args.addr) c.loop-row-test.true c.row-item.is in
    let now = went-as g.S.EdgeSink.takes g.S.EdgeSink.leaves c.args.sink.now c.loop-row.sink _ _ _ first c.loop-row.invariant in
    went-front g.S.EdgeSink.takes g.S.EdgeSink.leaves c.args.sink.now c.loop-row.sink _ _ _ now

pub loop-row-preserved : goal.loop-row-preserved
loop-row-preserved g c =
    let first = rows-first c.args.tables.now c.args.space.now (MOST_NESTED - 1) c.args.rows.now c.loop-row.row-index c.row-item.result (frame_at c.args.addr) c.loop-row-test.true c.row-item.is in
    let now = went-as g.S.EdgeSink.takes g.S.EdgeSink.leaves c.args.sink.now c.loop-row.sink _ _ _ first c.loop-row.invariant in
    went-on g.S.EdgeSink.takes g.S.EdgeSink.leaves c.args.sink.now c.loop-row.sink c.visit_element_row.new.sink _ _ _ now c.visit_element_row.ensures.took

pub returns : goal.returns
returns g c =
    let none = ap (λ xs. element_edges c.args.tables.now c.args.space.now xs c.args.addr) (drop_all c.loop-row.row-index c.args.rows.now c.loop-row-test.false) in
    record { took = went-end g.S.EdgeSink.takes g.S.EdgeSink.leaves c.args.sink.now c.loop-row.sink _ _ none c.loop-row.invariant }
