use Rattle.std.proofs.Common.{ap, sym, subst, ◌∙◌, Err}
use Rattle.gt_determined.proofs.Goods.{states-stay-good}
use Rattle.gt_asking.proofs.Sets.{set-refused, shape-answer, written-session}
use Rattle.gt_next.specs.Paths.{Leads}
use Rattle.gt_session.specs.Sessions.{StandsFor}
use Rattle.gt_next.specs.Next.{NextSet}
use Rattle.gt_next.specs.Spots.{spot}
use Rattle.gt_elements.specs.Elements.{owner_of}
use Rattle.gt_writes.specs.FoundLeaves.{IsFoundAt}
use Rattle.gt_writes.specs.SpotWrites.{SpotTakes}
use Rattle.gt_asking.proofs.setting.set.Goals as goal

pub returns-in_default-clause-next : goal.returns-in_default-clause-next
returns-in_default-clause-next c told s st = (s, NextSet.unbound (c.in_default.ensures.given told s st), st)

pub returns-in-Refused-clause-next : goal.returns-in-Refused-clause-next
returns-in-Refused-clause-next c told s st =
    let is = c.in-Some.ensures.given told s st in
    (s, set-refused c.args.s.now.schema.program s c.args.path.now c.args.value.now c.in-Some.leaf c.in-Refused.why is (c.take_aim.ensures.refused c.in-Refused.why (c.in-Err.is ∙ ap Err c.in-Refused.is) told s st), st)

pub write-requires-clause-may : goal.write-requires-clause-may
write-requires-clause-may c heap is =
    subst (λ ps. SpotTakes c.args.s.now.schema.program heap.graph (spot (owner_of c.in-Ok.aimed.owner) ps) c.in-Some.leaf) (sym c.as_slice-places.ensures) (c.in-Ok.ensures.takes heap is)

pub write-requires-clause-found : goal.write-requires-clause-found
write-requires-clause-found c f known heap is =
    let schema = c.args.s.now.schema in
    subst (λ ps. IsFoundAt schema.program schema.layouts c.args.s.now.objects heap (owner_of c.in-Ok.aimed.owner) ps f) (sym c.as_slice-places.ensures) (c.in-Ok.ensures.found f known heap is)

pub returns-in-Ok-write-clause-next : goal.returns-in-Ok-write-clause-next
returns-in-Ok-write-clause-next c told s st =
    let schema = c.args.s.now.schema in
    let owner = owner_of c.in-Ok.aimed.owner in
    let leaf = c.in-Some.leaf in
    let takes = subst (λ ps. SpotTakes schema.program s.heap.graph (spot owner ps) leaf) (sym c.as_slice-places.ensures) (c.in-Ok.ensures.takes s.heap st.holds.heap) in
    let leads = subst (λ ps. Leads schema.program s c.args.path.now (spot owner ps)) (sym c.as_slice-places.ensures) (c.in-Ok.ensures.leads told s st) in
    written-session c.args.s.now told s st (states-stay-good schema.program schema.layouts (record { settled = st.holds.schema.settled; laid = st.holds.schema.laid })) c.args.path.now c.args.value.now leaf owner c.as_slice-places.result.now c.write.new.objects
    (c.in-Some.ensures.given told s st) takes leads (c.in-Ok-write.ensures.written s.heap st.holds.heap)

pub returns-in-Shape-clause-next : goal.returns-in-Shape-clause-next
returns-in-Shape-clause-next c told s st =
    let schema = c.args.s.now.schema in
    let owner = owner_of c.in-Ok.aimed.owner in
    let leaf = c.in-Some.leaf in
    let takes = subst (λ ps. SpotTakes schema.program s.heap.graph (spot owner ps) leaf) (sym c.as_slice-places.ensures) (c.in-Ok.ensures.takes s.heap st.holds.heap) in
    let leads = subst (λ ps. Leads schema.program s c.args.path.now (spot owner ps)) (sym c.as_slice-places.ensures) (c.in-Ok.ensures.leads told s st) in
    let misfits = c.write.ensures.shape (c.in-Err-write.is ∙ ap Err c.in-Shape.is) s.heap st.holds.heap in
    let old = c.args.s.now in (
      s,
      shape-answer schema.program s (spot owner c.as_slice-places.result.now) c.args.value.now leaf (c.in-Some.ensures.given told s st) takes c.args.path.now leads misfits,
      subst (λ o. StandsFor (record old { objects = o }) told s) (sym c.in-Err-write.ensures.unchanged) st,
    )
