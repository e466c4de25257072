use Rattle.std.proofs.Common.{◌≡◌, ◌∙◌, [], ◌∷◌, Some, None, ap, sym, subst}
use Rattle.gt_types.specs.Settled.{Settled}
use Rattle.gt_types.specs.Contains.{HasStructure}
use Rattle.gt_script.specs.declared.command.Hop.TheVariants.{Name}
use Rattle.gt_tree.specs.Scopes.{typed}
use Rattle.gt_value.specs.Cursors.{member_of}
use Rattle.gt_next.specs.Paths.{RefusesIn}
use Rattle.gt_next.specs.declared.answer.Why.TheVariants.{NoField}
use Rattle.gt_routes.specs.Steps.{StepsTo, along}
use Rattle.gt_routes.proofs.Fields.{place-is, structure-there, field-refused}
use Rattle.gt_routes.proofs.Members.{member-leads, member-kept}
use Rattle.gt_routes.proofs.steps.member_step.Goals as goal

pub returns-in_default-clause-refused : goal.returns-in_default-clause-refused
returns-in_default-clause-refused c why e frame value path here p =
    let node = c.requires.node in
    let settled = subst Settled (sym p) c.requires.settled in
    let s = structure-there frame value path c.args.at.now here settled c.args.node node.0 node.1 in
    let has = subst (λ program. HasStructure program c.args.node s.0) p s.1 in
    let found = place-is c.args.program.now c.args.node s.0 c.args.name.now None has c.in_default.ensures.place in
    let same : NoField ≡ why = cc in
    subst (λ w. RefusesIn frame.program (typed here.here.p.type here.here.p.tree) (Name c.args.name.now) w) same
    (field-refused frame value path c.args.at.now here settled c.args.node node.0 node.1 s.0 c.args.name.now s.1 found)

pub returns-in_default-member-clause-inactive : goal.returns-in_default-member-clause-inactive
returns-in_default-member-clause-inactive c e frame value path here p =
    let node = c.requires.node in
    let settled = subst Settled (sym p) c.requires.settled in
    let place = c.in-Some.place in
    let s = structure-there frame value path c.args.at.now here settled c.args.node node.0 node.1 in
    let has = subst (λ program. HasStructure program c.args.node s.0) p s.1 in
    let found = place-is c.args.program.now c.args.node s.0 c.args.name.now (Some place) has c.in-Some.ensures.place in
    let member = c.in_default-member.ensures.member frame value path here.here in
    record { s = s.0; place = place; has = s.1; place_is = found; inactive = λ active. let both = member ∙ active in absurd (cc) }

pub returns-then-member-place-clause-inactive : goal.returns-then-member-place-clause-inactive
returns-then-member-place-clause-inactive c e frame value path here p =
    let node = c.requires.node in
    let settled = subst Settled (sym p) c.requires.settled in
    let place = c.in-Some.place in
    let s = structure-there frame value path c.args.at.now here settled c.args.node node.0 node.1 in
    let has = subst (λ program. HasStructure program c.args.node s.0) p s.1 in
    let found = place-is c.args.program.now c.args.node s.0 c.args.name.now (Some place) has c.in-Some.ensures.place in
    let member = c.in-Some-member.ensures.member frame value path here.here in
    record {
      s = s.0;
      place = place;
      has = s.1;
      place_is = found;
      inactive = λ active.
          let both = member ∙ active in
          let same : c.in-Some-member.member ≡ place = cc in
          c.if-member-place.true same;
    }

pub returns-in-Some-step-clause-leads : goal.returns-in-Some-step-clause-leads
returns-in-Some-step-clause-leads c to e frame value path here p =
    let node = c.requires.node in
    let settled = subst Settled (sym p) c.requires.settled in
    let place = c.in-Some.place in
    let step = c.made.result in
    let made = c.made.ensures.made in
    let s = structure-there frame value path c.args.at.now here settled c.args.node node.0 node.1 in
    let has = subst (λ program. HasStructure program c.args.node s.0) p s.1 in
    let found = place-is c.args.program.now c.args.node s.0 c.args.name.now (Some place) has c.in-Some.ensures.place in
    let active : member_of here.here.p.tree ≡ Some place = sym (c.in-Some-member.ensures.member frame value path here.here) ∙ ap Some c.if-member-place.false in
    let steps = member-leads frame value path c.args.at.now here settled c.args.node node.0 node.1 s.0 s.1 (c.requires.a_union s.0 has) c.args.name.now place found active c.in-Some-step.next
    (c.in-Some-step.ensures.part frame value path here.here) in
    let same : step ≡ to = cc in
    subst (λ x. StepsTo frame value path c.args.at.now (Name c.args.name.now) x.at (along x) here) same
    (subst (λ xs. StepsTo frame value path c.args.at.now (Name c.args.name.now) step.at xs here) (sym made.places_are)
    (subst (λ x. StepsTo frame value path c.args.at.now (Name c.args.name.now) x (place ∷ []) here) (sym made.at_is) steps))

pub returns-in-None-clause-inactive : goal.returns-in-None-clause-inactive
returns-in-None-clause-inactive c e frame value path here p =
    let node = c.requires.node in
    let settled = subst Settled (sym p) c.requires.settled in
    let place = c.in-Some.place in
    let s = structure-there frame value path c.args.at.now here settled c.args.node node.0 node.1 in
    let has = subst (λ program. HasStructure program c.args.node s.0) p s.1 in
    let found = place-is c.args.program.now c.args.node s.0 c.args.name.now (Some place) has c.in-Some.ensures.place in
    let active : member_of here.here.p.tree ≡ Some place = sym (c.in-Some-member.ensures.member frame value path here.here) ∙ ap Some c.if-member-place.false in
    absurd (member-kept frame value path c.args.at.now here settled c.args.node node.0 node.1 s.0 s.1 (c.requires.a_union s.0 has) c.args.name.now place found active (c.in-None.ensures.part frame value path here.here))
