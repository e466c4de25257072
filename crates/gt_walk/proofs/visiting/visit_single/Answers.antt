use Rattle.std.proofs.Common.{◌+◌, ◌≤◌, length, refl, arith}
use Rattle.gt_walk.proofs.Taking.{took-none}
use Rattle.gt_walk.proofs.Visits.{element-silent}
use Rattle.gt_walk.proofs.visiting.visit_single.Goals as goal

pub returns-else-place-end_of : goal.returns-else-place-end_of
returns-else-place-end_of g c =
    let past : c.args.source.now.space.now.start + length c.args.source.now.space.now.bytes ≤ c.args.place = omega (arith, c.if-place-end_of.false, c.end_of.ensures.end) in
    record { took = took-none g.S.EdgeSink.takes g.S.EdgeSink.leaves c.args.sink.now c.args.sink.now _ (element-silent c.args.source.now.tables.now c.args.source.now.space.now c.args.rows.now c.args.place past) refl }
