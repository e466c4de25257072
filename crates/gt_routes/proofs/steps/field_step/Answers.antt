use Rattle.std.proofs.Common.{[], ◌∷◌, Some, None, sym, subst}
use Rattle.gt_types.specs.Settled.{Settled}
use Rattle.gt_types.specs.Contains.{HasStructure}
use Rattle.gt_script.specs.declared.command.Hop.TheVariants.{Name}
use Rattle.gt_next.specs.declared.answer.Why.TheVariants.{NoField}
use Rattle.gt_routes.specs.Steps.{StepsTo}
use Rattle.gt_routes.proofs.Rows.{refused-as}
use Rattle.gt_routes.proofs.Fields.{place-is, structure-there, field-leads, field-refused, field-kept}
use Rattle.gt_routes.proofs.steps.field_step.Goals as goal

pub returns-in_default-clause-refused : goal.returns-in_default-clause-refused
returns-in_default-clause-refused c why e frame value path here p =
    let node = c.requires.node in
    let settled = subst Settled (sym p) c.requires.settled in
    let s = structure-there frame value path c.args.at.now here settled c.args.node node.0 node.1 in
    let has = subst (λ program. HasStructure program c.args.node s.0) p s.1 in
    let found = place-is c.args.program.now c.args.node s.0 c.args.name.now None has c.in_default.ensures.place in
    refused-as frame here.here.p (Name c.args.name.now) NoField why e (field-refused frame value path c.args.at.now here settled c.args.node node.0 node.1 s.0 c.args.name.now s.1 found)

pub returns-in-Some-step-clause-leads : goal.returns-in-Some-step-clause-leads
returns-in-Some-step-clause-leads c frame value path here p =
    let to = c.made.result in
    let made = c.made.ensures.made in
    let node = c.requires.node in
    let settled = subst Settled (sym p) c.requires.settled in
    let place = c.in-Some.place in
    let s = structure-there frame value path c.args.at.now here settled c.args.node node.0 node.1 in
    let has = subst (λ program. HasStructure program c.args.node s.0) p s.1 in
    let found = place-is c.args.program.now c.args.node s.0 c.args.name.now (Some place) has c.in-Some.ensures.place in
    let steps = field-leads frame value path c.args.at.now here settled c.args.node node.0 node.1 s.0 s.1 (c.requires.no_union s.0 has) c.in-Some-step.next c.args.name.now place found
    (c.in-Some-step.ensures.part frame value path here.here) in
    subst (λ xs. StepsTo frame value path c.args.at.now (Name c.args.name.now) to.at xs here) (sym made.places_are)
    (subst (λ x. StepsTo frame value path c.args.at.now (Name c.args.name.now) x (place ∷ []) here) (sym made.at_is) steps)

pub returns-in-None-clause-refused : goal.returns-in-None-clause-refused
returns-in-None-clause-refused c why e frame value path here p =
    let node = c.requires.node in
    let settled = subst Settled (sym p) c.requires.settled in
    let place = c.in-Some.place in
    let s = structure-there frame value path c.args.at.now here settled c.args.node node.0 node.1 in
    let has = subst (λ program. HasStructure program c.args.node s.0) p s.1 in
    let found = place-is c.args.program.now c.args.node s.0 c.args.name.now (Some place) has c.in-Some.ensures.place in
    absurd (field-kept frame value path c.args.at.now here settled c.args.node node.0 node.1 s.0 s.1 (c.requires.no_union s.0 has) c.args.name.now place found (c.in-None.ensures.part frame value path here.here))
