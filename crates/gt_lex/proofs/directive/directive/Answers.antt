use Rattle.std.proofs.Common.{◌<◌, ◌≤◌, ◌-◌, length, arith, sym, ap, ◌∙◌}
use Rattle.std.proofs.lemmas.List.{length-take}
use Rattle.gt_lex.proofs.Directives.{Read, read_part, read_shorter, rest_within, SoFar-step, is_directive, stops_in_directive}
use Rattle.gt_lex.proofs.directive.directive.Goals as goal
use Rattle.gt_lex.proofs.directive.directive.Goals.{In-Some}

-- the part that was read in this iteration
read_here : (c : In-Some) → Read c.parts.rest.now c.in-Some.after.now c.directive_start-start.result
read_here c =
    read_part c.parts.rest.now c.in-Some.after.now c.directive_start-start.result c.in-Some.field-0-0 c.parts.invariant.1.utf8 c.in-Some.ensures.utf8 (sym c.directive_start-start.ensures) (sym c.in-Some.ensures.rest)

shorter : (c : In-Some) → length c.in-Some.after.now < length c.parts.rest.now
shorter c = read_shorter c.parts.rest.now c.in-Some.after.now c.directive_start-start.result (read_here c)

within : (c : In-Some) → length c.parts.rest.now ≤ length c.args.text.now
within c = rest_within c.utf8.text c.parts.invariant.1

pub returns-in-End : goal.returns-in-End
returns-in-End c =
    is_directive c.args.whole c.args.text.now c.parts.rest.now c.parts.seen c.constant.result c.parts.invariant.1 (sym c.directive_start-start.ensures ∙ c.in-End.is) c.constant.ensures

pub returns-in_default-past : goal.returns-in_default-past
returns-in_default-past c =
    stops_in_directive c.args.whole c.args.text.now c.parts.rest.now c.parts.seen c.directive_start-start.result c.parts.invariant.1 (sym c.directive_start-start.ensures) c.in_default.not-End (sym c.in_default-past.ensures.rest)

pub before-requires : goal.before-requires
before-requires c = omega (arith, shorter c)

pub place-requires : goal.place-requires
place-requires c =
    let here = (goal.at.place-requires c).In-Some in
    record { within = omega (arith, within here, c.requires.within); fits = c.requires.fits }

pub with-seen-requires : goal.with-seen-requires
with-seen-requires c =
    let here = (goal.at.with-seen-requires c).In-Some in
    let long : length c.before-in-parts.result.now ≤ length c.parts.rest.now =
    omega (arith, ap length c.before-in-parts.ensures, length-take (length c.parts.rest.now - length c.in-Some.after.now) c.parts.rest.now) in
    omega (arith, within here, c.requires.within, c.requires.fits, c.place.ensures)

pub parts-smaller : goal.parts-smaller
parts-smaller c = shorter (goal.at.parts-smaller c).In-Some

pub parts-preserved : goal.parts-preserved
parts-preserved c =
    let here = (goal.at.parts-preserved c).In-Some in
    let so_far =
    SoFar-step c.args.whole c.args.text.now c.parts.rest.now c.in-Some.after.now c.parts.seen c.with-seen.result c.directive_start-start.result c.place.result c.before-in-parts.result.now c.utf8.text c.requires.within c.parts.invariant.1 (read_here here) c.place.ensures c.before-in-parts.ensures c.with-seen.ensures in
    (so_far.utf8, so_far)
