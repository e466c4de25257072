use Rattle.std.proofs.Common.{◌≡◌, ◌+◌, ◌-◌, ◌≤◌, length, ap, arith}
use Rattle.gt_walk.specs.ByRows.{run_edges, element_edges}
use Rattle.gt_walk.proofs.Visits.{block-silent}
use Rattle.gt_walk.proofs.Runs.{run-first, run-none}
use Rattle.gt_walk.proofs.Taking.{went-start, went-front, went-on, went-as, went-end}
use Rattle.gt_walk.proofs.visiting.visit_block.Goals as goal

pub loop-init : goal.loop-init
loop-init g c =
    let gives = element_edges c.args.source.now.tables.now c.args.source.now.space.now c.args.rows.now in
    let size = c.args.elements.size in
    let all = run_edges gives c.args.elements.place size c.args.elements.n in
    let whole : c.args.elements.n ≡ c.args.elements.n - 0 = omega arith in
    went-as g.S.EdgeSink.takes g.S.EdgeSink.leaves c.args.sink.now c.args.sink.now all all _ (ap (run_edges gives c.args.elements.place size) whole) (went-start g.S.EdgeSink.takes g.S.EdgeSink.leaves c.args.sink.now all c.requires.can)

pub returns-then-place-end : goal.returns-then-place-end
returns-then-place-end g c =
    let gives = element_edges c.args.source.now.tables.now c.args.source.now.space.now c.args.rows.now in
    let size = c.args.elements.size in
    let all = run_edges gives c.args.elements.place size c.args.elements.n in
    let past : c.args.source.now.space.now.start + length c.args.source.now.space.now.bytes ≤ c.loop.place = omega (arith, c.if-place-end.true, c.end_of-end.ensures.end) in
    let none = block-silent c.args.source.now.tables.now c.args.source.now.space.now c.args.rows.now c.loop.place size (c.args.elements.n - c.loop.counter) past in
    record { took = went-end g.S.EdgeSink.takes g.S.EdgeSink.leaves c.args.sink.now c.loop.sink all (run_edges gives c.loop.place size (c.args.elements.n - c.loop.counter)) none c.loop.invariant }

pub visit_element-requires-clause-can : goal.visit_element-requires-clause-can
visit_element-requires-clause-can g c =
    let gives = element_edges c.args.source.now.tables.now c.args.source.now.space.now c.args.rows.now in
    let size = c.args.elements.size in
    let all = run_edges gives c.args.elements.place size c.args.elements.n in
    let later = run_edges gives (c.loop.place + size) size (c.args.elements.n - (c.loop.counter + 1)) in
    let first = run-first gives c.loop.place size c.args.elements.n c.loop.counter c.loop-test.true in
    let now = went-as g.S.EdgeSink.takes g.S.EdgeSink.leaves c.args.sink.now c.loop.sink all (run_edges gives c.loop.place size (c.args.elements.n - c.loop.counter)) _ first c.loop.invariant in
    went-front g.S.EdgeSink.takes g.S.EdgeSink.leaves c.args.sink.now c.loop.sink all (gives c.loop.place) later now

pub loop-preserved : goal.loop-preserved
loop-preserved g c =
    let gives = element_edges c.args.source.now.tables.now c.args.source.now.space.now c.args.rows.now in
    let size = c.args.elements.size in
    let all = run_edges gives c.args.elements.place size c.args.elements.n in
    let later = run_edges gives (c.loop.place + size) size (c.args.elements.n - (c.loop.counter + 1)) in
    let first = run-first gives c.loop.place size c.args.elements.n c.loop.counter c.loop-test.true in
    let now = went-as g.S.EdgeSink.takes g.S.EdgeSink.leaves c.args.sink.now c.loop.sink all (run_edges gives c.loop.place size (c.args.elements.n - c.loop.counter)) _ first c.loop.invariant in
    went-on g.S.EdgeSink.takes g.S.EdgeSink.leaves c.args.sink.now c.loop.sink c.visit_element.new.sink all (gives c.loop.place) later now c.visit_element.ensures.took

pub returns : goal.returns
returns g c =
    let gives = element_edges c.args.source.now.tables.now c.args.source.now.space.now c.args.rows.now in
    let size = c.args.elements.size in
    let all = run_edges gives c.args.elements.place size c.args.elements.n in
    record {
      took = went-end g.S.EdgeSink.takes g.S.EdgeSink.leaves c.args.sink.now c.loop.sink all (run_edges gives c.loop.place size (c.args.elements.n - c.loop.counter)) (run-none gives c.loop.place size c.args.elements.n c.loop.counter c.loop-test.false) c.loop.invariant;
    }
