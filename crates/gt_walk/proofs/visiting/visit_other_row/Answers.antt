use Rattle.std.proofs.Common.{◌-◌, ap, sym}
use Rattle.gt_walk.specs.Rows.{MOST_NESTED}
use Rattle.gt_walk.specs.Visiting.{row_at}
use Rattle.gt_walk.proofs.Taking.{can-as, took-as}
use Rattle.gt_walk.proofs.visiting.visit_other_row.Goals as goal

pub visit_row-requires-clause-can : goal.visit_row-requires-clause-can
visit_row-requires-clause-can g c =
    can-as g.S.EdgeSink.takes g.S.EdgeSink.leaves c.args.sink.now _ _ (ap (row_at c.args.tables.now c.args.space.now (MOST_NESTED - 1) c.args.row.now) (sym c.new-frame.ensures)) c.requires.can

pub returns : goal.returns
returns g c = record {
  took = took-as g.S.EdgeSink.takes g.S.EdgeSink.leaves c.args.sink.now c.visit_row.new.sink _ _ (ap (row_at c.args.tables.now c.args.space.now (MOST_NESTED - 1) c.args.row.now) c.new-frame.ensures) c.visit_row.ensures.took;
}
