use Rattle.std.proofs.Common.{◌∙◌, ap, sym, arith, ◌≡◌}
use Rattle.gt_walk.specs.Rows.{size_in_note}
use Rattle.gt_walk.specs.ByRows.{run_edges, element_edges}
use Rattle.gt_walk.proofs.Taking.{can-as, took-as}
use Rattle.gt_walk.proofs.Visits.{run-single}
use Rattle.gt_walk.proofs.PlainRows.{after-note, run-after-note}
use Rattle.gt_walk.proofs.visiting.visit_with_rows.Goals as goal

pub visit_single-requires : goal.visit_single-requires
visit_single-requires g c =
    let one : c.args.count ≡ 1 = omega (arith, c.if-count-eq1.true) in
    let bare = after-note c.args.tables.now c.args.space.now c.args.rows.now c.args.addr ∙ ap (λ xs. element_edges c.args.tables.now c.args.space.now xs c.args.addr) (sym c.after_note-bare.ensures) in
    record { can = can-as g.S.EdgeSink.takes g.S.EdgeSink.leaves c.args.sink.now _ _ (run-single c.args.tables.now c.args.space.now c.args.rows.now c.args.addr (size_in_note c.args.rows.now) c.args.count one ∙ bare) c.requires.can }

pub returns-then-count-eq1 : goal.returns-then-count-eq1
returns-then-count-eq1 g c =
    let one : c.args.count ≡ 1 = omega (arith, c.if-count-eq1.true) in
    let bare = after-note c.args.tables.now c.args.space.now c.args.rows.now c.args.addr ∙ ap (λ xs. element_edges c.args.tables.now c.args.space.now xs c.args.addr) (sym c.after_note-bare.ensures) in
    record { took = took-as g.S.EdgeSink.takes g.S.EdgeSink.leaves c.args.sink.now c.visit_single.new.sink _ _ (sym (run-single c.args.tables.now c.args.space.now c.args.rows.now c.args.addr (size_in_note c.args.rows.now) c.args.count one ∙ bare)) c.visit_single.ensures.took }

pub visit_block-requires : goal.visit_block-requires
visit_block-requires g c =
    let sized = ap (λ s. run_edges (element_edges c.args.tables.now c.args.space.now c.args.rows.now) c.args.addr s c.args.count) (sym c.size_in_note.ensures) in
    let bare = run-after-note c.args.tables.now c.args.space.now c.args.rows.now c.args.addr c.size_in_note.result c.args.count
    ∙ ap (λ xs. run_edges (element_edges c.args.tables.now c.args.space.now xs) c.args.addr c.size_in_note.result c.args.count) (sym c.after_note-bare.ensures) in
    let moved = ap (λ x. run_edges (element_edges c.args.tables.now c.args.space.now c.after_note-bare.result.now) x.place x.size x.n) (sym c.new-elements.ensures) in
    record { can = can-as g.S.EdgeSink.takes g.S.EdgeSink.leaves c.args.sink.now _ _ (sized ∙ bare ∙ moved) c.requires.can }

pub returns-else-count-eq1 : goal.returns-else-count-eq1
returns-else-count-eq1 g c =
    let sized = ap (λ s. run_edges (element_edges c.args.tables.now c.args.space.now c.args.rows.now) c.args.addr s c.args.count) (sym c.size_in_note.ensures) in
    let bare = run-after-note c.args.tables.now c.args.space.now c.args.rows.now c.args.addr c.size_in_note.result c.args.count
    ∙ ap (λ xs. run_edges (element_edges c.args.tables.now c.args.space.now xs) c.args.addr c.size_in_note.result c.args.count) (sym c.after_note-bare.ensures) in
    let moved = ap (λ x. run_edges (element_edges c.args.tables.now c.args.space.now c.after_note-bare.result.now) x.place x.size x.n) (sym c.new-elements.ensures) in
    record { took = took-as g.S.EdgeSink.takes g.S.EdgeSink.leaves c.args.sink.now c.visit_block.new.sink _ _ (sym (sized ∙ bare ∙ moved)) c.visit_block.ensures.took }
