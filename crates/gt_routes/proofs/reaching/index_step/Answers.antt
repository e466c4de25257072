use Rattle.std.proofs.Common.{◌≡◌, ◌<◌, ap, sym, subst, ◌∙◌, arith}
use Rattle.std.specs.Prelude.{Err}
use Rattle.gt_script.specs.declared.command.Hop.TheVariants.{Index}
use Rattle.gt_next.specs.declared.answer.Why.TheVariants.{BadIndex}
use Rattle.gt_next.specs.Paths.{Steps, RefusesStep}
use Rattle.gt_routes.specs.declared.steps.WalkFail.TheVariants.{Refused}
use Rattle.gt_routes.specs.Reaching.{IsValueAt}
use Rattle.gt_routes.proofs.HeapSteps.{whole-there, same-end}
use Rattle.gt_routes.proofs.reaching.index_step.Goals as goal

pub returns-then-place-known-clause-refused : goal.returns-then-place-known-clause-refused
returns-then-place-known-clause-refused c why e heap is from follows =
    let program = c.args.schema.now.program in
    let known = c.in-Some.ensures.known program c.args.schema.now.layouts heap is in
    let same : BadIndex ≡ why = cc in
    let count = known.2.count in
    let past : ¬ (c.args.place < known.0.count) = λ lt. absurd (omega (arith, lt, count, c.if-place-known.true)) in
    subst (RefusesStep program heap.graph from (Index c.args.place)) same (RefusesStep.no_element follows (whole-there program heap.graph c.args.address known.0 known.1) past)

pub returns-in-Ok-clause-leads : goal.returns-in-Ok-clause-leads
returns-in-Ok-clause-leads c heap is =
    let program = c.args.schema.now.program in
    let there = c.in-Ok.ensures.cursor heap is in
    let spots = c.in-Ok.ensures.spot in
    record {
      steps = λ from follows.
          subst (λ s. Steps program heap.graph from (Index c.args.place) s) (sym spots)
          (Steps.to_element follows (whole-there program heap.graph c.args.address there.o there.there) there.within);
      ends = subst (λ s. IsValueAt program c.args.schema.now.layouts c.args.objects.now heap s c.in-Ok.at) (sym spots) there.at;
    }

pub returns-in-Ok-clause-inside : goal.returns-in-Ok-clause-inside
returns-in-Ok-clause-inside c at e =
    let schema = c.args.schema.now in
    let to = c.enter.new.reached in
    same-end schema.program schema.layouts c.args.objects.now to.first to.places.items c.in-Ok.at c.in-Ok.ensures.inside at e

pub returns-in-Err-clause-refused : goal.returns-in-Err-clause-refused
returns-in-Err-clause-refused c why e heap is =
    let same : c.in-Err.stop ≡ Refused why = cc in
    absurd (c.enter.ensures.refused why (c.in-Err.is ∙ ap Err same))

pub unreachable-requires : goal.unreachable-requires
unreachable-requires c =
    let heap = c.requires.ready.0 in
    let none = c.in_default.ensures.known c.args.schema.now.program c.args.schema.now.layouts heap c.requires.ready.1 in
    let there = (c.requires.there heap c.requires.ready.1).1 in
    cc
