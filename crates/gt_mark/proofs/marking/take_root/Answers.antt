use Rattle.std.proofs.Common.{None, ◌∙◌}
use Rattle.gt_walk.specs.Rows.{edges_of}
use Rattle.gt_mark.specs.Steps.{state_of, with_targets}
use Rattle.gt_mark.proofs.Blocks.{can_all}
use Rattle.gt_mark.proofs.Steps.{goes_on}
use Rattle.gt_mark.proofs.Final.{root_same, root_took}
use Rattle.gt_mark.proofs.Crowded.{root_wide}
use Rattle.gt_mark.proofs.marking.take_root.Goals as goal

pub visit-requires : goal.visit-requires
visit-requires c =
    let r = c.requires.ready in
    record { can = can_all r.0 None (edges_of c.args.tables.now c.args.walk 1 c.args.space.now 0) r.1 c.args.marker.now r.3 r.2.good }

pub walk_stack-requires : goal.walk_stack-requires
walk_stack-requires c =
    let r = c.requires.ready in
    let es = edges_of c.args.tables.now c.args.walk 1 c.args.space.now 0 in
    record { ready = (r.0, with_targets es r.1, (root_took r.0 r.1 es c.args.marker.now c.visit.new.sink r.2 r.3 c.visit.ensures.took).holds) }

pub returns-clause-same_reference : goal.returns-clause-same_reference
returns-clause-same_reference c =
    let r = c.requires.ready in
    c.walk_stack.ensures.same_reference ∙ root_same r.0 r.1 (edges_of c.args.tables.now c.args.walk 1 c.args.space.now 0) c.args.marker.now c.visit.new.sink r.2 r.3 c.visit.ensures.took

pub returns-clause-goes : goal.returns-clause-goes
returns-clause-goes c = λ t begun h fits.
    let es = edges_of c.args.tables.now c.args.walk 1 c.args.space.now 0 in
    let first = root_took t begun es c.args.marker.now c.visit.new.sink h fits c.visit.ensures.took in
    goes_on t (with_targets es begun) (state_of c.args.marker.now) (state_of c.visit.new.sink) (state_of c.walk_stack.new.self) first
    (c.walk_stack.ensures.goes t (with_targets es begun) first.holds)

pub returns-clause-wide : goal.returns-clause-wide
returns-clause-wide c = λ t begun h fits starts w.
    let es = edges_of c.args.tables.now c.args.walk 1 c.args.space.now 0 in
    let first = root_took t begun es c.args.marker.now c.visit.new.sink h fits c.visit.ensures.took in
    c.walk_stack.ensures.wide t (with_targets es begun) first.holds (root_wide t begun es c.args.marker.now c.visit.new.sink h fits starts w c.visit.ensures.took)
