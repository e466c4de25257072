use Rattle.std.proofs.Common.{ℕ, ◌≡◌, ◌∙◌, ◌+◌, ◌-◌, ◌≤◌, ◌<◌, [], length, ap, sym, refl, arith, rules, Some, None}
use Rattle.std.specs.Prelude.{slice_get}
use Rattle.std.proofs.lemmas.List.{drop_all}
use Rattle.gt_walk.specs.Rows.{walk_edges, length_of}
use Rattle.gt_walk.specs.Frames.{frame_of}
use Rattle.gt_walk.specs.ByRows.{run_edges}
use Rattle.gt_walk.specs.Visiting.{row_at, rows_at, stood, chosen_of}
use Rattle.gt_walk.proofs.Measures.{rep-falls, tail-falls, switch-falls, elements-fall, rows-fall, arm-falls, walk-falls}
use Rattle.gt_walk.proofs.Runs.{run-first, run-none}
use Rattle.gt_walk.proofs.Silence.{walk-silent}
use Rattle.gt_walk.proofs.Taking.{went-start, went-front, went-on, went-as, went-end, can-as, took-as, took-none}
use Rattle.gt_walk.proofs.Visits.{arm-edges, rep-run, tail-run, switch-arm, walk-rows, walk-none, elements-silent, rows-first}
use Rattle.gt_walk.proofs.visiting.+visiting.Goals as goal
use Rattle.gt_walk.proofs.visiting.+visiting.Goals.{visit_walk-then-left-eq0-via-then-left-eq0, visit_walk-then-left-eq0-via-else-left-eq0+then-frame-end_of}

pub visit_arm-visit_row-requires : goal.visit_arm-visit_row-requires
visit_arm-visit_row-requires g t c κs within =
    let is : Some c.in-Some.arm.now ≡ chosen_of c.args.value c.args.arms.now = c.in-Some.ensures in
    let falls = arm-falls c.args.source.now.tables.now.walks c.args.left c.args.value c.args.arms.now c.in-Some.arm.now c.in-Some-row.row c.get.result.now is c.in-Some-row.is c.get.ensures in
    let same = arm-edges c.args.source.now.tables.now c.args.source.now.space.now c.args.left c.args.value c.args.arms.now c.in-Some.arm.now c.in-Some-row.row c.get.result.now (frame_of c.args.frame.now) is c.in-Some-row.is c.get.ensures in
    (omega (arith, c.decreases, falls), (within, (c.requires.near, can-as g.S.EdgeSink.takes g.S.EdgeSink.leaves c.args.sink.now _ _ same c.requires.can)))

pub visit_elements-loop-init : goal.visit_elements-loop-init
visit_elements-loop-init g t c =
    let gives = λ (p : ℕ). row_at c.args.source.now.tables.now c.args.source.now.space.now c.args.left c.args.elem.now (stood (frame_of c.args.frame.now) p) in
    let all = run_edges gives c.args.elements.place c.args.elements.size c.args.elements.n in
    let whole : c.args.elements.n ≡ c.args.elements.n - 0 = omega arith in (
      went-as g.S.EdgeSink.takes g.S.EdgeSink.leaves c.args.sink.now c.args.sink.now all all _ (ap (run_edges gives c.args.elements.place c.args.elements.size) whole)
          (went-start g.S.EdgeSink.takes g.S.EdgeSink.leaves c.args.sink.now all c.requires.can),
      c.requires.near,
    )

pub visit_elements-returns-then-place-end : goal.visit_elements-returns-then-place-end
visit_elements-returns-then-place-end g t c =
    let range = c.args.source.now.space.now in
    let gives = λ (p : ℕ). row_at c.args.source.now.tables.now range c.args.left c.args.elem.now (stood (frame_of c.args.frame.now) p) in
    let past : range.start + length range.bytes ≤ c.loop.place = omega (arith, c.if-place-end.true, c.end_of-end.ensures.end) in
    let none = elements-silent c.args.source.now.tables.now range c.args.left c.args.elem.now (frame_of c.args.frame.now) c.loop.place c.args.elements.size (c.args.elements.n - c.loop.counter) past in
    record {
      took = went-end g.S.EdgeSink.takes g.S.EdgeSink.leaves c.args.sink.now c.loop.sink (run_edges gives c.args.elements.place c.args.elements.size c.args.elements.n)
          (run_edges gives c.loop.place c.args.elements.size (c.args.elements.n - c.loop.counter)) none c.loop.invariant.0;
    }

pub visit_elements-visit_row-requires : goal.visit_elements-visit_row-requires
visit_elements-visit_row-requires g t c κs within =
    let range = c.args.source.now.space.now in
    let gives = λ (p : ℕ). row_at c.args.source.now.tables.now range c.args.left c.args.elem.now (stood (frame_of c.args.frame.now) p) in
    let all = run_edges gives c.args.elements.place c.args.elements.size c.args.elements.n in
    let first = run-first gives c.loop.place c.args.elements.size c.args.elements.n c.loop.counter c.loop-test.true in
    let now = went-as g.S.EdgeSink.takes g.S.EdgeSink.leaves c.args.sink.now c.loop.sink all (run_edges gives c.loop.place c.args.elements.size (c.args.elements.n - c.loop.counter)) _ first c.loop.invariant.0 in
    (omega (arith, c.decreases, elements-fall c.args.source.now.tables.now.walks c.args.left c.args.elem.now), (within, (omega (arith, c.if-place-end.false, c.end_of-end.ensures.small), went-front g.S.EdgeSink.takes g.S.EdgeSink.leaves c.args.sink.now c.loop.sink all (gives c.loop.place) _ now)))

pub visit_elements-loop-preserved : goal.visit_elements-loop-preserved
visit_elements-loop-preserved g t c =
    let range = c.args.source.now.space.now in
    let gives = λ (p : ℕ). row_at c.args.source.now.tables.now range c.args.left c.args.elem.now (stood (frame_of c.args.frame.now) p) in
    let all = run_edges gives c.args.elements.place c.args.elements.size c.args.elements.n in
    let first = run-first gives c.loop.place c.args.elements.size c.args.elements.n c.loop.counter c.loop-test.true in
    let now = went-as g.S.EdgeSink.takes g.S.EdgeSink.leaves c.args.sink.now c.loop.sink all (run_edges gives c.loop.place c.args.elements.size (c.args.elements.n - c.loop.counter)) _ first c.loop.invariant.0 in (
      went-on g.S.EdgeSink.takes g.S.EdgeSink.leaves c.args.sink.now c.loop.sink c.visit_row.new.sink all (gives c.loop.place) _ now c.visit_row.ensures.took,
      omega (arith, c.if-place-end.false, c.end_of-end.ensures.small),
    )

pub visit_elements-returns : goal.visit_elements-returns
visit_elements-returns g t c =
    let range = c.args.source.now.space.now in
    let gives = λ (p : ℕ). row_at c.args.source.now.tables.now range c.args.left c.args.elem.now (stood (frame_of c.args.frame.now) p) in
    record {
      took = went-end g.S.EdgeSink.takes g.S.EdgeSink.leaves c.args.sink.now c.loop.sink (run_edges gives c.args.elements.place c.args.elements.size c.args.elements.n)
          (run_edges gives c.loop.place c.args.elements.size (c.args.elements.n - c.loop.counter)) (run-none gives c.loop.place c.args.elements.size c.args.elements.n c.loop.counter c.loop-test.false) c.loop.invariant.0;
    }

pub visit_row-visit_elements-requires : goal.visit_row-visit_elements-requires
visit_row-visit_elements-requires g t c κs within =
    let same = rep-run c.args.source.now.tables.now c.args.source.now.space.now c.args.left c.args.row.now c.in-Rep.offset c.in-Rep.n c.in-Rep.size c.in-Rep.elem c.get.result.now (frame_of c.args.frame.now) c.in-Rep.is c.get.ensures ∙ ap (λ x. run_edges (λ p. row_at c.args.source.now.tables.now c.args.source.now.space.now c.args.left c.get.result.now (stood (frame_of c.args.frame.now) p)) x.place x.size x.n) (sym c.new-elements.ensures) in
    (omega (arith, c.decreases, rep-falls c.args.source.now.tables.now.walks c.args.left c.args.row.now c.in-Rep.offset c.in-Rep.n c.in-Rep.size c.in-Rep.elem c.get.result.now c.in-Rep.is c.get.ensures), (within, (omega (arith, c.requires.near, ap (λ x. x.place) c.new-elements.ensures), can-as g.S.EdgeSink.takes g.S.EdgeSink.leaves c.args.sink.now _ _ same c.requires.can)))

pub visit_row-visit_elements-requires-in-Tail : goal.visit_row-visit_elements-requires-in-Tail
visit_row-visit_elements-requires-in-Tail g t c κs within =
    let same = tail-run c.args.source.now.tables.now c.args.source.now.space.now c.args.left c.args.row.now c.in-Tail.offset c.in-Tail.len c.in-Tail.size c.in-Tail.elem c.get-in-Tail.result.now c.length_of-n.result (frame_of c.args.frame.now)
    c.in-Tail.is c.get-in-Tail.ensures (c.length_of-n.ensures ∙ ap length_of c.row_value.ensures) ∙ ap (λ x. run_edges (λ p. row_at c.args.source.now.tables.now c.args.source.now.space.now c.args.left c.get-in-Tail.result.now (stood (frame_of c.args.frame.now) p)) x.place x.size x.n) (sym c.new-elements-in-Tail.ensures) in
    (omega (arith, c.decreases, tail-falls c.args.source.now.tables.now.walks c.args.left c.args.row.now c.in-Tail.offset c.in-Tail.len c.in-Tail.size c.in-Tail.elem c.get-in-Tail.result.now c.in-Tail.is c.get-in-Tail.ensures), (within, (omega (arith, c.requires.near, ap (λ x. x.place) c.new-elements-in-Tail.ensures), can-as g.S.EdgeSink.takes g.S.EdgeSink.leaves c.args.sink.now _ _ same c.requires.can)))

pub visit_row-visit_arm-requires : goal.visit_row-visit_arm-requires
visit_row-visit_arm-requires g t c κs within =
    let same = switch-arm c.args.source.now.tables.now c.args.source.now.space.now c.args.left c.args.row.now c.in-Switch.desc c.in-Switch.arms c.row_value-value.result c.deref.result.now (frame_of c.args.frame.now)
    c.in-Switch.is c.deref.ensures.value c.row_value-value.ensures in
    (omega (arith, c.decreases, switch-falls c.args.source.now.tables.now.walks c.args.left c.args.row.now c.in-Switch.desc c.in-Switch.arms c.deref.result.now c.in-Switch.is c.deref.ensures.value), (within, (c.requires.near, can-as g.S.EdgeSink.takes g.S.EdgeSink.leaves c.args.sink.now _ _ same c.requires.can)))

pub visit_row-returns-in-Rep : goal.visit_row-returns-in-Rep
visit_row-returns-in-Rep g t c =
    let same = rep-run c.args.source.now.tables.now c.args.source.now.space.now c.args.left c.args.row.now c.in-Rep.offset c.in-Rep.n c.in-Rep.size c.in-Rep.elem c.get.result.now (frame_of c.args.frame.now) c.in-Rep.is c.get.ensures ∙ ap (λ x. run_edges (λ p. row_at c.args.source.now.tables.now c.args.source.now.space.now c.args.left c.get.result.now (stood (frame_of c.args.frame.now) p)) x.place x.size x.n) (sym c.new-elements.ensures) in
    record { took = took-as g.S.EdgeSink.takes g.S.EdgeSink.leaves c.args.sink.now c.visit_elements.new.sink _ _ (sym same) c.visit_elements.ensures.took }

pub visit_row-returns-in-Tail : goal.visit_row-returns-in-Tail
visit_row-returns-in-Tail g t c =
    let same = tail-run c.args.source.now.tables.now c.args.source.now.space.now c.args.left c.args.row.now c.in-Tail.offset c.in-Tail.len c.in-Tail.size c.in-Tail.elem c.get-in-Tail.result.now c.length_of-n.result (frame_of c.args.frame.now)
    c.in-Tail.is c.get-in-Tail.ensures (c.length_of-n.ensures ∙ ap length_of c.row_value.ensures) ∙ ap (λ x. run_edges (λ p. row_at c.args.source.now.tables.now c.args.source.now.space.now c.args.left c.get-in-Tail.result.now (stood (frame_of c.args.frame.now) p)) x.place x.size x.n) (sym c.new-elements-in-Tail.ensures) in
    record { took = took-as g.S.EdgeSink.takes g.S.EdgeSink.leaves c.args.sink.now c.visit_elements-in-Tail.new.sink _ _ (sym same) c.visit_elements-in-Tail.ensures.took }

pub visit_row-returns-in-Switch : goal.visit_row-returns-in-Switch
visit_row-returns-in-Switch g t c =
    let same = switch-arm c.args.source.now.tables.now c.args.source.now.space.now c.args.left c.args.row.now c.in-Switch.desc c.in-Switch.arms c.row_value-value.result c.deref.result.now (frame_of c.args.frame.now)
    c.in-Switch.is c.deref.ensures.value c.row_value-value.ensures in
    record { took = took-as g.S.EdgeSink.takes g.S.EdgeSink.leaves c.args.sink.now c.visit_arm.new.sink _ _ (sym same) c.visit_arm.ensures.took }

pub visit_rows-loop-row-init : goal.visit_rows-loop-row-init
visit_rows-loop-row-init g t c = went-start g.S.EdgeSink.takes g.S.EdgeSink.leaves c.args.sink.now _ c.requires.can

pub visit_rows-visit_row-requires : goal.visit_rows-visit_row-requires
visit_rows-visit_row-requires g t c κs within =
    let f = frame_of c.args.frame.now in
    let rows = c.args.rows.now in
    let all = rows_at c.args.source.now.tables.now c.args.source.now.space.now c.args.left rows f in
    let first = rows-first c.args.source.now.tables.now c.args.source.now.space.now c.args.left rows c.loop-row.row-index c.row-item.result f c.loop-row-test.true c.row-item.is in
    let now = went-as g.S.EdgeSink.takes g.S.EdgeSink.leaves c.args.sink.now c.loop-row.sink all _ _ first c.loop-row.invariant in
    (omega (arith, c.decreases, rows-fall c.args.source.now.tables.now.walks c.args.left rows c.loop-row.row-index c.row-item.result c.loop-row-test.true c.row-item.is), (within, (c.requires.near, went-front g.S.EdgeSink.takes g.S.EdgeSink.leaves c.args.sink.now c.loop-row.sink all _ _ now)))

pub visit_rows-loop-row-preserved : goal.visit_rows-loop-row-preserved
visit_rows-loop-row-preserved g t c =
    let f = frame_of c.args.frame.now in
    let rows = c.args.rows.now in
    let all = rows_at c.args.source.now.tables.now c.args.source.now.space.now c.args.left rows f in
    let first = rows-first c.args.source.now.tables.now c.args.source.now.space.now c.args.left rows c.loop-row.row-index c.row-item.result f c.loop-row-test.true c.row-item.is in
    let now = went-as g.S.EdgeSink.takes g.S.EdgeSink.leaves c.args.sink.now c.loop-row.sink all _ _ first c.loop-row.invariant in
    went-on g.S.EdgeSink.takes g.S.EdgeSink.leaves c.args.sink.now c.loop-row.sink c.visit_row.new.sink all _ _ now c.visit_row.ensures.took

pub visit_rows-returns : goal.visit_rows-returns
visit_rows-returns g t c =
    let f = frame_of c.args.frame.now in
    let rows = c.args.rows.now in
    let none = ap (λ xs. rows_at c.args.source.now.tables.now c.args.source.now.space.now c.args.left xs f) (drop_all c.loop-row.row-index rows c.loop-row-test.false) in
    record { took = went-end g.S.EdgeSink.takes g.S.EdgeSink.leaves c.args.sink.now c.loop-row.sink _ _ none c.loop-row.invariant }

pub visit_walk-returns-then-left-eq0 : goal.visit_walk-returns-then-left-eq0
visit_walk-returns-then-left-eq0 g t c =
    let tables = c.args.source.now.tables.now in
    let range = c.args.source.now.space.now in
    let f = frame_of c.args.frame.now in
    let none : walk_edges tables range c.args.left c.args.walk f ≡ [] = elim c.then-left-eq0.branch [
      | visit_walk-then-left-eq0-via-then-left-eq0 w ↦ ap (λ d. walk_edges tables range d c.args.walk f) w.if-left-eq0.true
      | visit_walk-then-left-eq0-via-else-left-eq0+then-frame-end_of w ↦ walk-silent tables range c.args.left c.args.walk f (omega (arith, w.if-frame-end_of.true, w.end_of.ensures.end))
    ] in
    record { took = took-none g.S.EdgeSink.takes g.S.EdgeSink.leaves c.args.sink.now c.args.sink.now _ none refl }

pub visit_walk-visit_rows-requires : goal.visit_walk-visit_rows-requires
visit_walk-visit_rows-requires g t c κs within =
    let some : 0 < c.args.left = omega (arith, c.if-left-eq0.false) in
    let same = walk-rows c.args.source.now.tables.now c.args.source.now.space.now c.args.left c.args.walk c.in-Some.rows.now c.as_slice.result.now (frame_of c.args.frame.now) some c.in-Some.ensures.item c.as_slice.ensures.items in
    (omega (arith, c.decreases, walk-falls c.args.source.now.tables.now.walks c.args.left c.args.walk c.in-Some.rows.now c.as_slice.result.now some c.in-Some.ensures.item c.as_slice.ensures.items), (within, (omega (arith, c.if-frame-end_of.false, c.end_of.ensures.small), can-as g.S.EdgeSink.takes g.S.EdgeSink.leaves c.args.sink.now _ _ same c.requires.can)))

pub visit_walk-returns-in-Some : goal.visit_walk-returns-in-Some
visit_walk-returns-in-Some g t c =
    let some : 0 < c.args.left = omega (arith, c.if-left-eq0.false) in
    let same = walk-rows c.args.source.now.tables.now c.args.source.now.space.now c.args.left c.args.walk c.in-Some.rows.now c.as_slice.result.now (frame_of c.args.frame.now) some c.in-Some.ensures.item c.as_slice.ensures.items in
    record { took = took-as g.S.EdgeSink.takes g.S.EdgeSink.leaves c.args.sink.now c.visit_rows.new.sink _ _ (sym same) c.visit_rows.ensures.took }

pub visit_walk-returns-in_default : goal.visit_walk-returns-in_default
visit_walk-returns-in_default g t c =
    let missing : slice_get c.args.source.now.tables.now.walks c.args.walk ≡ None = search rules in
    let none = walk-none c.args.source.now.tables.now c.args.source.now.space.now c.args.left c.args.walk (frame_of c.args.frame.now) missing in
    record { took = took-none g.S.EdgeSink.takes g.S.EdgeSink.leaves c.args.sink.now c.args.sink.now _ none refl }
