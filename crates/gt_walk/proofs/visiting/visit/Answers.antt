use Rattle.std.proofs.Common.{◌≡◌, sym, refl, rules, None}
use Rattle.std.specs.Prelude.{slice_get}
use Rattle.gt_walk.proofs.Taking.{can-as, took-as, took-none}
use Rattle.gt_walk.proofs.Visits.{block-none, edges-rows, rows-found}
use Rattle.gt_walk.proofs.visiting.visit.Goals as goal

pub returns-in_default : goal.returns-in_default
returns-in_default g c =
    let missing : slice_get c.args.tables.now.walks c.args.walk ≡ None = search rules in
    record { took = took-none g.S.EdgeSink.takes g.S.EdgeSink.leaves c.args.sink.now c.args.sink.now _ (block-none c.args.tables.now c.args.space.now c.args.walk c.args.count c.args.addr missing) refl }

pub visit_with_rows-requires : goal.visit_with_rows-requires
visit_with_rows-requires g c =
    let found = rows-found c.args.tables.now c.args.space.now c.args.walk c.in-Some.rows.now c.as_slice.result.now c.in-Some.ensures.item c.as_slice.ensures.items in
    record { can = can-as g.S.EdgeSink.takes g.S.EdgeSink.leaves c.args.sink.now _ _ (edges-rows c.args.tables.now c.args.space.now c.args.walk c.args.count c.args.addr c.as_slice.result.now found) c.requires.can }

pub returns : goal.returns
returns g c =
    let found = rows-found c.args.tables.now c.args.space.now c.args.walk c.in-Some.rows.now c.as_slice.result.now c.in-Some.ensures.item c.as_slice.ensures.items in
    record { took = took-as g.S.EdgeSink.takes g.S.EdgeSink.leaves c.args.sink.now c.visit_with_rows.new.sink _ _ (sym (edges-rows c.args.tables.now c.args.space.now c.args.walk c.args.count c.args.addr c.as_slice.result.now found)) c.visit_with_rows.ensures.took }
