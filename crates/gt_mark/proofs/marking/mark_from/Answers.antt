use Rattle.std.proofs.Common.{[], ◌∷◌, ◌∙◌, refl, rules}
use Rattle.gt_walk.specs.Rows.{edge}
use Rattle.gt_mark.specs.Steps.{state_of}
use Rattle.gt_mark.proofs.Final.{rounds_as, edge_fits, first_took, marks_as, task_of}
use Rattle.gt_mark.proofs.Remarked.{contains_head}
use Rattle.gt_mark.proofs.Crowded.{first_wide, more_final, one_final}
use Rattle.gt_mark.proofs.Steps.{lessens_on}
use Rattle.gt_mark.proofs.marking.mark_from.Goals as goal

pub walk_stack-requires : goal.walk_stack-requires
walk_stack-requires c =
    let r = c.requires.ready in
    let t = task_of c.args.tables.now c.args.space.now r.0 (c.args.addr ∷ []) c.args.pages.now r.2 c.sound.ensures.laid in
    record { ready = (t, c.args.addr ∷ [], (first_took t c.new-marker.result c.edge.new.self (edge 0 c.args.addr c.args.walk c.args.count) c.new-marker.ensures.state (edge_fits t (edge 0 c.args.addr c.args.walk c.args.count) (c.args.addr ∷ []) refl r.1) c.edge.ensures.leaves).holds) }

pub walk_rest-requires-clause-ready : goal.walk_rest-requires-clause-ready
walk_rest-requires-clause-ready c =
    let r = c.requires.ready in
    let t = task_of c.args.tables.now c.args.space.now r.0 (c.args.addr ∷ []) c.args.pages.now r.2 c.sound.ensures.laid in
    let first = first_took t c.new-marker.result c.edge.new.self (edge 0 c.args.addr c.args.walk c.args.count) c.new-marker.ensures.state (edge_fits t (edge 0 c.args.addr c.args.walk c.args.count) (c.args.addr ∷ []) refl r.1) c.edge.ensures.leaves in
    (t, c.args.addr ∷ [], (c.walk_stack.ensures.goes t (c.args.addr ∷ []) first.holds).holds)

pub walk_rest-requires-clause-idle : goal.walk_rest-requires-clause-idle
walk_rest-requires-clause-idle c =
    let r = c.requires.ready in
    let t = task_of c.args.tables.now c.args.space.now r.0 (c.args.addr ∷ []) c.args.pages.now r.2 c.sound.ensures.laid in
    let first = first_took t c.new-marker.result c.edge.new.self (edge 0 c.args.addr c.args.walk c.args.count) c.new-marker.ensures.state (edge_fits t (edge 0 c.args.addr c.args.walk c.args.count) (c.args.addr ∷ []) refl r.1) c.edge.ensures.leaves in
    (c.walk_stack.ensures.goes t (c.args.addr ∷ []) first.holds).stands ∙ first.stands

pub returns-clause-marked : goal.returns-clause-marked
returns-clause-marked c = λ walks is can.
    let t = task_of c.args.tables.now c.args.space.now walks (c.args.addr ∷ []) c.args.pages.now can c.sound.ensures.laid in
    let first = first_took t c.new-marker.result c.edge.new.self (edge 0 c.args.addr c.args.walk c.args.count) c.new-marker.ensures.state (edge_fits t (edge 0 c.args.addr c.args.walk c.args.count) (c.args.addr ∷ []) refl is) c.edge.ensures.leaves in
    let second = c.walk_stack.ensures.goes t (c.args.addr ∷ []) first.holds in
    let last = c.walk_rest.ensures.ends t (c.args.addr ∷ []) second.holds in
    marks_as t (c.args.addr ∷ []) (state_of c.walk_rest.new.self) _ last.holds c.walk_rest.ensures.empty c.walk_rest.ensures.room c.walk_rest.ensures.idle (λ a there. there) (search rules)

pub returns-clause-rounds : goal.returns-clause-rounds
returns-clause-rounds c = λ walks is can.
    let t = task_of c.args.tables.now c.args.space.now walks (c.args.addr ∷ []) c.args.pages.now can c.sound.ensures.laid in
    let first = first_took t c.new-marker.result c.edge.new.self (edge 0 c.args.addr c.args.walk c.args.count) c.new-marker.ensures.state (edge_fits t (edge 0 c.args.addr c.args.walk c.args.count) (c.args.addr ∷ []) refl is) c.edge.ensures.leaves in
    let second = c.walk_stack.ensures.goes t (c.args.addr ∷ []) first.holds in
    let last = c.walk_rest.ensures.ends t (c.args.addr ∷ []) second.holds in
    let wide = c.walk_stack.ensures.wide t (c.args.addr ∷ []) first.holds
    (first_wide t c.new-marker.result c.edge.new.self (edge 0 c.args.addr c.args.walk c.args.count) c.new-marker.ensures.state (edge_fits t (edge 0 c.args.addr c.args.walk c.args.count) (c.args.addr ∷ []) refl is) (contains_head c.args.addr []) c.edge.ensures.leaves) in
    rounds_as t (c.args.addr ∷ []) (c.args.addr ∷ []) c.walk_rest.result (state_of c.walk_stack.new.self) (state_of c.walk_rest.new.self) _ c.walk_rest.ensures.room (lessens_on _ _ _ 0 first.lessens second.lessens) last c.walk_rest.ensures.at_least
    (one_final t (c.args.addr ∷ []) (state_of c.walk_rest.new.self) last.holds c.walk_rest.ensures.empty c.walk_rest.ensures.room c.walk_rest.ensures.idle (λ a there. there) _ (search rules) (state_of c.walk_stack.new.self) c.walk_rest.result wide c.walk_rest.ensures.one)
    (more_final t (c.args.addr ∷ []) (state_of c.walk_stack.new.self) (state_of c.walk_rest.new.self) c.walk_rest.result _ last.holds c.walk_rest.ensures.empty c.walk_rest.ensures.room c.walk_rest.ensures.idle (λ a there. there) wide
    c.walk_rest.ensures.again (search rules)) (search rules)
