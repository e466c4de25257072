use Rattle.std.proofs.Common.{◌≡◌, ◌∷◌, [], ap, ◌∙◌}
use Rattle.std.specs.Prelude.{Err}
use Rattle.gt_routes.specs.declared.steps.WalkFail.TheVariants.{Refused}
use Rattle.gt_routes.specs.Reaching.{start_of}
use Rattle.gt_routes.proofs.Walking.{walked-more, walked-stops, walked-all}
use Rattle.gt_routes.proofs.reaching.walk.Goals as goal

pub returns-in-Err-clause-refused : goal.returns-in-Err-clause-refused
returns-in-Err-clause-refused c why e heap is =
    let schema = c.args.schema.now in
    let same : c.in-Err.stop ≡ Refused why = cc in
    let item : c.steps.hops ≡ c.in-Some.hop ∷ c.take_first.new.self = rw c.in-Some.is at c.in-Ok.ensures.taken in
    walked-stops schema.program schema.layouts c.args.objects.now (start_of c.args.start) c.args.steps.now c.steps.hops c.steps.reached c.steps.invariant c.in-Some.hop c.take_first.new.self item why heap is
    (c.step.ensures.refused why (c.in-Err.is ∙ ap Err same) heap is)

pub returns-in_default-first-clause-leads : goal.returns-in_default-first-clause-leads
returns-in_default-first-clause-leads c heap is =
    let schema = c.args.schema.now in
    let taken : (c.steps.hops ≡ []) × (c.take_first.new.self ≡ []) = rw c.in_default-first.is at c.in-Ok.ensures.taken in
    walked-all schema.program schema.layouts c.args.objects.now (start_of c.args.start) c.args.steps.now c.steps.hops c.steps.reached c.steps.invariant taken.0 heap is

pub steps-preserved-in-Ok-step : goal.steps-preserved-in-Ok-step
steps-preserved-in-Ok-step c =
    let schema = c.args.schema.now in
    let item : c.steps.hops ≡ c.in-Some.hop ∷ c.take_first.new.self = rw c.in-Some.is at c.in-Ok.ensures.taken in
    walked-more schema.program schema.layouts c.args.objects.now (start_of c.args.start) c.args.steps.now c.steps.hops c.steps.reached c.steps.invariant c.in-Some.hop c.take_first.new.self item
    c.step.new.reached c.in-Ok-step.ensures.leads c.in-Ok-step.ensures.ends c.in-Ok-step.ensures.first c.in-Ok-step.ensures.inside

pub steps-preserved : goal.steps-preserved
steps-preserved c =
    let schema = c.args.schema.now in
    let item : c.steps.hops ≡ c.in-Some.hop ∷ c.take_first.new.self = rw c.in-Some.is at c.in-Ok.ensures.taken in
    walked-more schema.program schema.layouts c.args.objects.now (start_of c.args.start) c.args.steps.now c.steps.hops c.steps.reached c.steps.invariant c.in-Some.hop c.take_first.new.self item
    c.step.new.reached c.in-Ok-step.ensures.leads c.in-Ok-step.ensures.ends c.in-Ok-step.ensures.first c.in-Ok-step.ensures.inside
