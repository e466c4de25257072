use Rattle.std.proofs.Common.{sym, ◌∙◌}
use Rattle.gt_walk.proofs.PlainRows.{element-plain}
use Rattle.gt_walk.proofs.Taking.{can-as, took-as}
use Rattle.gt_walk.proofs.visiting.visit_element_row.Goals as goal

pub visit_plain_row-requires-clause-can : goal.visit_plain_row-requires-clause-can
visit_plain_row-requires-clause-can g c =
    let same = element-plain c.args.tables.now c.args.space.now c.args.at c.args.row.now (sym c.is_plain.ensures ∙ c.if-is_plain.true) in
    can-as g.S.EdgeSink.takes g.S.EdgeSink.leaves c.args.sink.now _ _ same c.requires.can

pub returns-then-is_plain : goal.returns-then-is_plain
returns-then-is_plain g c =
    let same = element-plain c.args.tables.now c.args.space.now c.args.at c.args.row.now (sym c.is_plain.ensures ∙ c.if-is_plain.true) in
    record { took = took-as g.S.EdgeSink.takes g.S.EdgeSink.leaves c.args.sink.now c.visit_plain_row.new.sink _ _ (sym same) c.visit_plain_row.ensures.took }
