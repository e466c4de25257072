use Rattle.std.proofs.Common.{◌≡◌, sym, ap, ◌∙◌}
use Rattle.gt_script.proofs.Walks.{place, route_begins, route_known, route_nameless}
use Rattle.gt_script.proofs.Boundaries.{start_boundary}
use Rattle.gt_script.proofs.routes.route.Goals as goal

pub split_at-start-requires : goal.split_at-start-requires
split_at-start-requires c = record { boundary = start_boundary c.args.text.now c.step_place.result (c.step_place.ensures.place ∙ ap place c.bytes.ensures) }

pub returns-in_default : goal.returns-in_default
returns-in_default c =
    let at : c.step_place.result ≡ place c.args.text.now = c.step_place.ensures.place ∙ ap place c.bytes.ensures in
    route_nameless c.args.variable c.args.text.now c.split_at-start.result.0 c.split_at-start.result.1 c.step_place.result at c.split_at-start.ensures.front c.split_at-start.ensures.back (sym c.in_default.is ∙ c.in_ok-name.ensures.name)

pub of-requires : goal.of-requires
of-requires c =
    let at : c.step_place.result ≡ place c.args.text.now = c.step_place.ensures.place ∙ ap place c.bytes.ensures in
    record { begins = route_begins c.args.text.now c.split_at-start.result.1 c.step_place.result at c.split_at-start.ensures.back }

pub returns-in_default-2 : goal.returns-in_default-2
returns-in_default-2 c =
    let at : c.step_place.result ≡ place c.args.text.now = c.step_place.ensures.place ∙ ap place c.bytes.ensures in
    route_known _ _ c.args.variable c.args.text.now c.split_at-start.result.0 c.split_at-start.result.1 c.step_place.result at c.split_at-start.ensures.front c.split_at-start.ensures.back
    (sym c.in-Some.is ∙ c.in_ok-name.ensures.name) (sym c.in_default-2.is ∙ c.in_ok-steps.ensures.steps)

pub returns : goal.returns
returns c =
    let at : c.step_place.result ≡ place c.args.text.now = c.step_place.ensures.place ∙ ap place c.bytes.ensures in
    route_known _ _ c.args.variable c.args.text.now c.split_at-start.result.0 c.split_at-start.result.1 c.step_place.result at c.split_at-start.ensures.front c.split_at-start.ensures.back
    (sym c.in-Some.is ∙ c.in_ok-name.ensures.name) (sym c.in-Some-2.is ∙ c.in_ok-steps.ensures.steps)
