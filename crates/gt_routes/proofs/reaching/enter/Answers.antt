use Rattle.std.proofs.Common.{◌≡◌, [], ◌∷◌, ◌++◌, ap, sym, subst, ◌∙◌, refl, Some}
use Rattle.gt_value.specs.Bytes.{StandsFor}
use Rattle.gt_value.specs.Cursors.{frame, element_part, IsAt}
use Rattle.gt_graph.specs.Changes.{Of}
use Rattle.gt_next.specs.Spots.{spot}
use Rattle.gt_routes.proofs.HeapSteps.{element-end, entered-inside, first-entered, first-inside}
use Rattle.gt_routes.proofs.reaching.enter.Goals as goal

pub returns-clause-cursor : goal.returns-clause-cursor
returns-clause-cursor c heap is =
    let schema = c.args.schema.now in
    let found = c.element_of-element.result in
    let type = c.get-ty.result.now in
    element-end schema.program schema.layouts c.args.objects.now heap c.args.address c.args.place found is (c.element_of-element.ensures.element heap is) type (λ may. c.get-ty.ensures.found schema.program c.requires.schema.types may)
    c.at_element-at.result
    (λ statics value s.
    subst (λ r. IsAt (frame schema.program schema.layouts r found.addr) c.at_element-at.result (element_part statics type value) []) c.space.ensures
    (c.at_element-at.ensures.whole statics value (subst (λ r. StandsFor schema.program schema.layouts found.capacity type r found.addr value) (sym c.space.ensures) s)))

pub returns-clause-spot : goal.returns-clause-spot
returns-clause-spot c =
    let items : c.push.new.self.items ≡ c.args.place ∷ [] = c.in-Ok.ensures.ok ∙ ap (λ xs. xs ++ c.args.place ∷ []) c.clear.ensures.items in
    ap (spot (Of c.args.address)) items

pub returns-clause-first : goal.returns-clause-first
returns-clause-first c heap is e same =
    let schema = c.args.schema.now in
    let items : c.push.new.self.items ≡ c.args.place ∷ [] = c.in-Ok.ensures.ok ∙ ap (λ xs. xs ++ c.args.place ∷ []) c.clear.ensures.items in
    first-entered schema.program schema.layouts c.args.objects.now heap c.args.address c.args.place c.push.new.self.items items c.element_of-element.result e (c.element_of-element.ensures.element heap is) same

pub returns-clause-inside : goal.returns-clause-inside
returns-clause-inside c =
    let schema = c.args.schema.now in
    let ready = c.requires.ready in
    let found = c.element_of-element.result in
    let type = c.get-ty.result.now in
    let items : c.push.new.self.items ≡ c.args.place ∷ [] = c.in-Ok.ensures.ok ∙ ap (λ xs. xs ++ c.args.place ∷ []) c.clear.ensures.items in
    let inside = entered-inside schema.program schema.layouts c.args.objects.now ready.0 c.args.address c.args.place found ready.1 (c.element_of-element.ensures.element ready.0 ready.1) type (λ may. c.get-ty.ensures.found schema.program c.requires.schema.types may)
    c.at_element-at.result
    (λ statics value s.
    subst (λ r. IsAt (frame schema.program schema.layouts r found.addr) c.at_element-at.result (element_part statics type value) []) c.space.ensures
    (c.at_element-at.ensures.whole statics value (subst (λ r. StandsFor schema.program schema.layouts found.capacity type r found.addr value) (sym c.space.ensures) s))) in
    first-inside schema.program schema.layouts c.args.objects.now c.args.place c.push.new.self.items items found c.at_element-at.result inside (Some found) refl
