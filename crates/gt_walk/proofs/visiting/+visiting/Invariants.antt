use Rattle.std.proofs.Common.{ℕ, ◌-◌, ◌<◌, ◌^◌, drop}
use Rattle.gt_walk.specs.Frames.{frame_of}
use Rattle.gt_walk.specs.ByRows.{run_edges}
use Rattle.gt_walk.specs.Visiting.{row_at, rows_at, stood}
use Rattle.gt_walk.proofs.Measures.{walk_measure, row_measure, elements_measure, rows_measure, arms_measure}
use Rattle.gt_walk.proofs.Taking.{Went}
use Rattle.gt_walk.proofs.visiting.+visiting.Given as goal

abbrev pub decreases-visit_arm : goal.decreases-visit_arm
decreases-visit_arm g l = arms_measure l.source.now.tables.now.walks l.left l.arms.now

abbrev pub decreases-visit_elements : goal.decreases-visit_elements
decreases-visit_elements g l = elements_measure l.source.now.tables.now.walks l.left l.elem.now

abbrev pub decreases-visit_row : goal.decreases-visit_row
decreases-visit_row g l = row_measure l.source.now.tables.now.walks l.left l.row.now

abbrev pub decreases-visit_rows : goal.decreases-visit_rows
decreases-visit_rows g l = rows_measure l.source.now.tables.now.walks l.left l.rows.now

abbrev pub decreases-visit_walk : goal.decreases-visit_walk
decreases-visit_walk g l = walk_measure l.source.now.tables.now.walks l.left

abbrev pub invariant-visit_elements-loop : goal.invariant-visit_elements-loop
invariant-visit_elements-loop g l =
    let gives = λ (p : ℕ). row_at l.source.tables.now l.source.space.now l.left l.elem (stood (frame_of l.frame) p) in
    Went g.S.EdgeSink.takes g.S.EdgeSink.leaves l.initial.sink (run_edges gives l.elements.place l.elements.size l.elements.n) l.sink (run_edges gives l.place l.elements.size (l.elements.n - l.counter))
    × (l.place < 2 ^ 34)

abbrev pub invariant-visit_rows-loop-row : goal.invariant-visit_rows-loop-row
invariant-visit_rows-loop-row g l =
    Went g.S.EdgeSink.takes g.S.EdgeSink.leaves l.initial.sink (rows_at l.source.tables.now l.source.space.now l.left l.rows (frame_of l.frame)) l.sink (rows_at l.source.tables.now l.source.space.now l.left (drop l.row-index l.rows) (frame_of l.frame))
