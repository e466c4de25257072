use Rattle.std.proofs.Common.{None, ap, refl, sym, subst, ◌∙◌}
use Rattle.gt_walk.proofs.Visits.{edges-rows}
use Rattle.gt_mark.specs.Chains.{chain_place}
use Rattle.gt_mark.specs.Steps.{Goes, state_of}
use Rattle.gt_mark.proofs.Blocks.{can_same, goes_block, same_block, took_same}
use Rattle.gt_mark.specs.Wide.{Wide}
use Rattle.gt_mark.proofs.Widening.{wide_block}
use Rattle.gt_mark.proofs.marker.Marker.walk_block.Goals as goal

pub visit_with_rows-requires : goal.visit_with_rows-requires
visit_with_rows-requires c =
    let r = c.requires.ready in
    let same = edges-rows c.args.tables.now c.args.space.now c.args.block.walk c.args.block.count c.args.block.addr c.rows_of-rows.result.now c.rows_of-rows.ensures in
    record { can = can_same r.0 r.1 c.args.block c.args.self.now r.2 _ c.chain_place-self.result refl _ same }

pub returns-clause-same_reference : goal.returns-clause-same_reference
returns-clause-same_reference c =
    let r = c.requires.ready in
    let same = edges-rows c.args.tables.now c.args.space.now c.args.block.walk c.args.block.count c.args.block.addr c.rows_of-rows.result.now c.rows_of-rows.ensures in
    same_block r.0 r.1 c.args.block c.args.self.now r.2 _ c.chain_place-self.result refl c.visit_with_rows.new.sink (took_same _ c.visit_with_rows.new.sink _ _ same c.visit_with_rows.ensures.took)

pub returns-clause-goes : goal.returns-clause-goes
returns-clause-goes c = λ t begun h.
    let same = edges-rows c.args.tables.now c.args.space.now c.args.block.walk c.args.block.count c.args.block.addr c.rows_of-rows.result.now c.rows_of-rows.ensures in
    let goes = goes_block t begun c.args.block c.args.self.now h _ c.chain_place-self.result refl c.visit_with_rows.new.sink (took_same _ c.visit_with_rows.new.sink _ _ same c.visit_with_rows.ensures.took) in
    subst (λ x. Goes t begun c.take.result (state_of c.args.self.now) (record (state_of c.visit_with_rows.new.sink) { chain = None; next = x })) (sym c.take.ensures.after)
    (subst (λ x. Goes t begun x (state_of c.args.self.now) (record (state_of c.visit_with_rows.new.sink) { chain = None; next = None })) (sym c.take.ensures.value) goes)

pub returns-clause-wide : goal.returns-clause-wide
returns-clause-wide c = λ t begun h w.
    let same = edges-rows c.args.tables.now c.args.space.now c.args.block.walk c.args.block.count c.args.block.addr c.rows_of-rows.result.now c.rows_of-rows.ensures in
    let placed = c.chain_place-self.ensures ∙ ap (λ rows. chain_place rows c.args.block) c.rows_of-rows.ensures in
    let wide = wide_block t begun c.args.block c.args.self.now h w _ c.chain_place-self.result refl c.visit_with_rows.new.sink placed (took_same _ c.visit_with_rows.new.sink _ _ same c.visit_with_rows.ensures.took) in
    subst (λ x. Wide t (record (state_of c.visit_with_rows.new.sink) { chain = None; next = x }) c.take.result) (sym c.take.ensures.after)
    (subst (λ x. Wide t (record (state_of c.visit_with_rows.new.sink) { chain = None; next = None }) x) (sym c.take.ensures.value) wide)
