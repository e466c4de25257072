use Rattle.std.proofs.Common.{◌≡◌, false, refl, [], ◌∷◌, ap, sym, subst, ◌∙◌}
use Rattle.std.specs.Prelude.{Err}
use Rattle.gt_graph.specs.Changes.{Of}
use Rattle.gt_next.specs.declared.answer.Why.TheVariants.{WrongType}
use Rattle.gt_next.specs.Spots.{spot}
use Rattle.gt_routes.specs.declared.steps.WalkFail.TheVariants.{Refused}
use Rattle.gt_routes.specs.Reaching.{IsValueAt, LeadsWithin, StopsWithin, StopsAt, holds_nodes}
use Rattle.gt_routes.proofs.HeapSteps.{none-there}
use Rattle.gt_routes.proofs.Singles.{not-single, single-leads, single-stops, on-ok}
use Rattle.gt_routes.proofs.reaching.single_step.Goals as goal

pub returns-then-known-ne1-clause-refused : goal.returns-then-known-ne1-clause-refused
returns-then-known-ne1-clause-refused c why e heap is =
    let program = c.args.schema.now.program in
    let known = c.in-Some.ensures.known program c.args.schema.now.layouts heap is in
    let name = c.requires.name in
    let same : WrongType ≡ why = cc in
    subst (λ w. StopsAt program heap (spot (Of c.args.address) []) c.args.hop.now w) same
    (not-single program heap c.args.address known.0 c.args.hop.now name.0 name.1 known.1 (λ t one. c.if-known-ne1.true (sym known.2.count ∙ one.3)))

pub returns-then-not-holds_nodes-clause-refused : goal.returns-then-not-holds_nodes-clause-refused
returns-then-not-holds_nodes-clause-refused c why e heap is =
    let program = c.args.schema.now.program in
    let known = c.in-Some.ensures.known program c.args.schema.now.layouts heap is in
    let name = c.requires.name in
    let same : WrongType ≡ why = cc in
    let other : holds_nodes c.in-Some.known.kind ≡ false = sym c.holds_nodes.ensures ∙ c.if-not-holds_nodes.true in
    subst (λ w. StopsAt program heap (spot (Of c.args.address) []) c.args.hop.now w) same
    (not-single program heap c.args.address known.0 c.args.hop.now name.0 name.1 known.1 (none-there program known.0 c.in-Some.known.kind known.2.kind other))

pub value_step-requires-clause-stands : goal.value_step-requires-clause-stands
value_step-requires-clause-stands c heap is =
    let schema = c.args.schema.now in
    let there = c.in-Ok.ensures.cursor heap is in
    subst (λ s. IsValueAt schema.program schema.layouts c.args.objects.now heap s c.in-Ok.at) (sym c.in-Ok.ensures.spot) there.at

pub returns-in-Ok-clause-leads : goal.returns-in-Ok-clause-leads
returns-in-Ok-clause-leads c =
    let schema = c.args.schema.now in
    let name = c.requires.name in
    let to = c.value_step.new.reached in
    on-ok c.value_step.result
    (λ leads heap is.
    let known = c.in-Some.ensures.known schema.program schema.layouts heap is in
    single-leads schema.program heap c.args.address known.0 c.args.hop.now name.0 name.1 known.1 c.in-Some.known.kind known.2.kind (sym c.holds_nodes.ensures ∙ c.if-not-holds_nodes.false) (known.2.count ∙ c.if-known-ne1.false) (0 ∷ []) refl
    schema.layouts c.args.objects.now to (subst (λ s. LeadsWithin schema.program schema.layouts c.args.objects.now heap s c.args.hop.now to) c.in-Ok.ensures.spot (leads heap is)))
    c.value_step.ensures.leads

pub returns-in-Ok-clause-refused : goal.returns-in-Ok-clause-refused
returns-in-Ok-clause-refused c why e heap is =
    let schema = c.args.schema.now in
    let name = c.requires.name in
    let known = c.in-Some.ensures.known schema.program schema.layouts heap is in
    single-stops schema.program heap c.args.address known.0 c.args.hop.now name.0 name.1 known.1 c.in-Some.known.kind known.2.kind (sym c.holds_nodes.ensures ∙ c.if-not-holds_nodes.false) (known.2.count ∙ c.if-known-ne1.false) (0 ∷ []) refl why
    (subst (λ s. StopsWithin schema.program heap s c.args.hop.now why) c.in-Ok.ensures.spot (c.value_step.ensures.refused why e heap is))

pub returns-in-Err-clause-refused : goal.returns-in-Err-clause-refused
returns-in-Err-clause-refused c why e heap is =
    let same : c.in-Err.stop ≡ Refused why = cc in
    absurd (c.enter.ensures.refused why (c.in-Err.is ∙ ap Err same))

pub unreachable-requires : goal.unreachable-requires
unreachable-requires c =
    let heap = c.requires.ready.0 in
    let none = c.in_default.ensures.known c.args.schema.now.program c.args.schema.now.layouts heap c.requires.ready.1 in
    let there = (c.requires.there heap c.requires.ready.1).1 in
    cc
