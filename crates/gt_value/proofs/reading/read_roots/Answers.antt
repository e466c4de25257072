use Rattle.std.proofs.Common.{◌≡◌, ◌+◌, subst, arith, get_or}
use Rattle.std.proofs.lemmas.List.{get_or_default}
use Rattle.gt_types.specs.declared.program.Root.{Root}
use Rattle.gt_layout.specs.Places.{begin_at}
use Rattle.gt_value.specs.Reading.{Stands}
use Rattle.gt_value.proofs.StandingSteps.{spot-there, fields-next, fields-more, fields-end, front-none}
use Rattle.gt_value.proofs.reading.read_roots.Goals as goal

pub loop-i-init : goal.loop-i-init
loop-i-init c values s = record { rest = values; front = front-none c.new-parts.result.items values c.new-parts.ensures.items; stand = s }

pub bounds-spots-i : goal.bounds-spots-i
bounds-spots-i c =
    let values = c.requires.stand.0 in
    spot-there c.args.source.now c.args.around (λ (r : Root). r.ty) c.args.roots.now c.args.spots.now 0 values c.loop-i.parts.items c.loop-i.i c.index-roots-i.result c.loop-i-test.true c.index-roots-i.is (c.loop-i.invariant values c.requires.stand.1)

pub overflow_cast-begin : goal.overflow_cast-begin
overflow_cast-begin c =
    let values = c.requires.stand.0 in
    let f = c.index-roots-i.result in
    let b = c.begin_at-begin.ensures.begin in
    let spot = get_or c.args.spots.now c.loop-i.i (record { offset = 0; bit = 0 }) in
    let r = c.loop-i.invariant values c.requires.stand.1 in
    let within = spot-there c.args.source.now c.args.around (λ (r : Root). r.ty) c.args.roots.now c.args.spots.now 0 values c.loop-i.parts.items c.loop-i.i f c.loop-i-test.true c.index-roots-i.is r in
    let spot_is : spot ≡ get_or c.args.spots.now c.loop-i.i spot = get_or_default c.args.spots.now c.loop-i.i (record { offset = 0; bit = 0 }) spot within in
    let same : 0 + begin_at spot ≡ c.begin_at-begin.result = omega (arith, b) in
    let step = fields-next c.args.source.now c.args.around (λ (r : Root). r.ty) c.args.roots.now c.args.spots.now 0 values c.loop-i.parts.items c.loop-i.i f spot c.loop-i-test.true c.index-roots-i.is spot_is r in
    omega (arith, step.first.inside, step.first.context.small, same)

pub read_type-requires-clause-stands : goal.read_type-requires-clause-stands
read_type-requires-clause-stands c =
    let values = c.requires.stand.0 in
    let f = c.index-roots-i.result in
    let b = c.begin_at-begin.ensures.begin in
    let spot = get_or c.args.spots.now c.loop-i.i (record { offset = 0; bit = 0 }) in
    let r = c.loop-i.invariant values c.requires.stand.1 in
    let within = spot-there c.args.source.now c.args.around (λ (r : Root). r.ty) c.args.roots.now c.args.spots.now 0 values c.loop-i.parts.items c.loop-i.i f c.loop-i-test.true c.index-roots-i.is r in
    let spot_is : spot ≡ get_or c.args.spots.now c.loop-i.i spot = get_or_default c.args.spots.now c.loop-i.i (record { offset = 0; bit = 0 }) spot within in
    let same : 0 + begin_at spot ≡ c.begin_at-begin.result = omega (arith, b) in
    let step = fields-next c.args.source.now c.args.around (λ (r : Root). r.ty) c.args.roots.now c.args.spots.now 0 values c.loop-i.parts.items c.loop-i.i f spot c.loop-i-test.true c.index-roots-i.is spot_is r in
    (step.tree, subst (λ k. Stands c.args.source.now c.args.around f.ty k step.tree) same step.first)

pub loop-i-preserved : goal.loop-i-preserved
loop-i-preserved c all s =
    let values = all in
    let f = c.index-roots-i.result in
    let b = c.begin_at-begin.ensures.begin in
    let spot = get_or c.args.spots.now c.loop-i.i (record { offset = 0; bit = 0 }) in
    let r = c.loop-i.invariant values s in
    let within = spot-there c.args.source.now c.args.around (λ (r : Root). r.ty) c.args.roots.now c.args.spots.now 0 values c.loop-i.parts.items c.loop-i.i f c.loop-i-test.true c.index-roots-i.is r in
    let spot_is : spot ≡ get_or c.args.spots.now c.loop-i.i spot = get_or_default c.args.spots.now c.loop-i.i (record { offset = 0; bit = 0 }) spot within in
    let same : 0 + begin_at spot ≡ c.begin_at-begin.result = omega (arith, b) in
    fields-more c.args.source.now c.args.around (λ (r : Root). r.ty) c.args.roots.now c.args.spots.now 0 values c.loop-i.parts.items c.push.new.self.items c.loop-i.i f spot c.in_ok-part.part c.loop-i-test.true c.index-roots-i.is spot_is r
    (λ value stands. c.in_ok-part.ensures value (subst (λ k. Stands c.args.source.now c.args.around f.ty k value) same stands)) c.in_ok-push.ensures.items

pub returns : goal.returns
returns c values s = fields-end c.args.source.now c.args.around (λ (r : Root). r.ty) c.args.roots.now c.args.spots.now 0 values c.loop-i.parts.items c.loop-i.i c.loop-i-test.false (c.loop-i.invariant values s)
