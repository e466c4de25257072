use Rattle.std.proofs.Common.{◌≡◌, true, false, Some, sym, subst, ◌∙◌}
use Rattle.std.specs.Prelude.{slice_get}
use Rattle.gt_types.specs.Contains.{HasStructure}
use Rattle.gt_script.specs.declared.command.Hop.TheVariants.{Name}
use Rattle.gt_tree.specs.Scopes.{is_node}
use Rattle.gt_next.specs.declared.answer.Why.TheVariants.{Inactive}
use Rattle.gt_next.specs.Paths.{place_of}
use Rattle.gt_types.specs.Settled.{Settled}
use Rattle.gt_types.specs.Unions.{IsCommon}
use Rattle.gt_routes.specs.Steps.{IsInactive, RefusedFrom}
use Rattle.gt_routes.proofs.Fields.{place-is}
use Rattle.gt_routes.proofs.CommonParts as parts
use Rattle.gt_routes.proofs.commons.common_step.Goals as goal

pub returns-in_default-common_structure-clause-refused : goal.returns-in_default-common_structure-clause-refused
returns-in_default-common_structure-clause-refused c why e =
    let program = c.args.program.now in
    let s = c.in-Some-get.structure.now in
    let name = c.args.name.now in
    let has : HasStructure program c.args.node s = sym c.in-Some-get.ensures.item in
    let found : place_of s name ≡ Some c.in-Some.place = place-is program c.args.node s name (Some c.in-Some.place) has c.in-Some.ensures.place in
    let same : Inactive ≡ why = cc in
    subst (λ w. RefusedFrom program c.args.at.now (Name name) w) same
    (parts.none-from program c.requires.settled c.args.at.now c.args.node c.requires.node.0 c.requires.node.1 s has (c.requires.a_union s has) name c.in-Some.place found c.requires.inactive c.in_default-common_structure.ensures)

pub returns-then-not-is_node-clause-refused : goal.returns-then-not-is_node-clause-refused
returns-then-not-is_node-clause-refused c why e =
    let program = c.args.program.now in
    let s = c.in-Some-get.structure.now in
    let f = c.in-Some-get-2.field.now in
    let name = c.args.name.now in
    let has : HasStructure program c.args.node s = sym c.in-Some-get.ensures.item in
    let got : slice_get s.fields c.in-Some.place ≡ Some f = sym c.in-Some-get-2.ensures.item in
    let found : place_of s name ≡ Some c.in-Some.place = place-is program c.args.node s name (Some c.in-Some.place) has c.in-Some.ensures.place in
    let same : Inactive ≡ why = cc in
    let other : is_node c.in-Some-common_structure.common f.ty ≡ false = sym c.is_node.ensures ∙ c.if-not-is_node.true in
    subst (λ w. RefusedFrom program c.args.at.now (Name name) w) same
    (parts.other-from program c.requires.settled c.args.at.now c.args.node c.requires.node.0 c.requires.node.1 s has (c.requires.a_union s has) name c.in-Some.place found c.requires.inactive c.in-Some-common_structure.common
    c.in-Some-common_structure.ensures f got other)

pub returns-in_default-member-clause-leads : goal.returns-in_default-member-clause-leads
returns-in_default-member-clause-leads c =
    let program = c.args.program.now in
    let s = c.in-Some-get.structure.now in
    let f = c.in-Some-get-2.field.now in
    let name = c.args.name.now in
    let has : HasStructure program c.args.node s = sym c.in-Some-get.ensures.item in
    let got : slice_get s.fields c.in-Some.place ≡ Some f = sym c.in-Some-get-2.ensures.item in
    let found : place_of s name ≡ Some c.in-Some.place = place-is program c.args.node s name (Some c.in-Some.place) has c.in-Some.ensures.place in
    let it : is_node c.in-Some-common_structure.common f.ty ≡ true = sym c.is_node.ensures ∙ c.if-not-is_node.false in
    parts.kept-from program c.requires.settled c.args.at.now c.args.node c.requires.node.0 c.requires.node.1 s has (c.requires.a_union s has) name c.in-Some.place found c.requires.inactive c.in-Some-common_structure.common
    c.in-Some-common_structure.ensures f got it (λ at value path here. sym (c.in_default-member.ensures.member at value path here.here)) c.in-Some-step.next c.in-Some-step.ensures.part c.made.result c.made.ensures.made

pub begin_of-requires-clause-stands : goal.begin_of-requires-clause-stands
begin_of-requires-clause-stands c =
    let program = c.args.program.now in
    let s = c.in-Some-get.structure.now in
    let name = c.args.name.now in
    let has : HasStructure program c.args.node s = sym c.in-Some-get.ensures.item in
    let found : place_of s name ≡ Some c.in-Some.place = place-is program c.args.node s name (Some c.in-Some.place) has c.in-Some.ensures.place in
    parts.member-in program c.requires.settled c.args.at.now c.args.node c.requires.node.0 c.requires.node.1 s has (c.requires.a_union s has) name c.in-Some.place found c.requires.stands c.in-Some-common_structure.common
    c.in-Some-common_structure.ensures c.in-Some-member.member (λ at value path here. sym (c.in-Some-member.ensures.member at value path here.here)) c.in-Some-step-2.next c.in-Some-step-2.ensures.part

pub begin_of-requires-clause-begins : goal.begin_of-requires-clause-begins
begin_of-requires-clause-begins c =
    let program = c.args.program.now in
    let s = c.in-Some-get.structure.now in
    let name = c.args.name.now in
    let has : HasStructure program c.args.node s = sym c.in-Some-get.ensures.item in
    let found : place_of s name ≡ Some c.in-Some.place = place-is program c.args.node s name (Some c.in-Some.place) has c.in-Some.ensures.place in
    parts.member-begins-in program c.requires.settled c.args.at.now c.args.node c.requires.node.0 c.requires.node.1 s has (c.requires.a_union s has) name c.in-Some.place found c.requires.stands c.in-Some-common_structure.common
    c.in-Some-common_structure.ensures c.in-Some-member.member (λ at value path here. sym (c.in-Some-member.ensures.member at value path here.here)) c.in-Some-step-2.next c.in-Some-step-2.ensures.part

pub returns-clause-leads : goal.returns-clause-leads
returns-clause-leads c =
    let program = c.args.program.now in
    let s = c.in-Some-get.structure.now in
    let f = c.in-Some-get-2.field.now in
    let name = c.args.name.now in
    let next = c.in-Some-step-2.next in
    let common = c.in-Some-common_structure.common in
    let member = c.in-Some-member.member in
    let has : HasStructure program c.args.node s = sym c.in-Some-get.ensures.item in
    let got : slice_get s.fields c.in-Some.place ≡ Some f = sym c.in-Some-get-2.ensures.item in
    let found : place_of s name ≡ Some c.in-Some.place = place-is program c.args.node s name (Some c.in-Some.place) has c.in-Some.ensures.place in
    let it : is_node common f.ty ≡ true = sym c.is_node.ensures ∙ c.if-not-is_node.false in
    parts.common-from program c.requires.settled c.args.at.now c.args.node c.requires.node.0 c.requires.node.1 s has (c.requires.a_union s has) name c.in-Some.place found c.requires.inactive common c.in-Some-common_structure.ensures f got it member
    (λ at value path here. sym (c.in-Some-member.ensures.member at value path here.here)) next c.in-Some-step-2.ensures.part c.begin_of.result c.begin_of.ensures.begin

pub unreachable-requires : goal.unreachable-requires
unreachable-requires c =
    let program = c.args.program.now in
    let s = c.requires.stands in
    let inactive = c.requires.inactive s.at s.value s.path s.stands s.program_is in
    let here = subst (λ x. IsInactive x s.stands.here.p.tree c.args.node c.args.name.now) s.program_is inactive in
    parts.place-missing program c.args.node c.args.name.now s.stands.here.p.tree here (sym c.in_default.ensures.place)

pub unreachable-requires-in_default-get-2 : goal.unreachable-requires-in_default-get-2
unreachable-requires-in_default-get-2 c =
    let program = c.args.program.now in
    let s = c.in-Some-get.structure.now in
    let has : HasStructure program c.args.node s = sym c.in-Some-get.ensures.item in
    let found : place_of s c.args.name.now ≡ Some c.in-Some.place = place-is program c.args.node s c.args.name.now (Some c.in-Some.place) has c.in-Some.ensures.place in
    parts.field-missing s c.args.name.now c.in-Some.place found (sym c.in_default-get-2.ensures.item)

pub unreachable-requires-in_default-step : goal.unreachable-requires-in_default-step
unreachable-requires-in_default-step c =
    let s = c.in-Some-get.structure.now in
    let has : HasStructure c.args.program.now c.args.node s = sym c.in-Some-get.ensures.item in
    let at = c.requires.stands in
    let here = at.stands.here in
    parts.kept-there at.at at.value at.path c.args.at.now at.stands (subst Settled (sym at.program_is) c.requires.settled) c.args.node c.requires.node.0 c.requires.node.1 s (subst (λ x. HasStructure x c.args.node s) (sym at.program_is) has)
    (c.requires.a_union s has) c.in-Some.place c.in-Some-common_structure.common (subst (λ x. IsCommon x s c.in-Some-common_structure.common) (sym at.program_is) c.in-Some-common_structure.ensures)
    (sym (c.in_default-member.ensures.member at.at at.value at.path here)) (c.in_default-step.ensures.part at.at at.value at.path here)

pub unreachable-requires-in_default-step-2 : goal.unreachable-requires-in_default-step-2
unreachable-requires-in_default-step-2 c =
    let s = c.in-Some-get.structure.now in
    let has : HasStructure c.args.program.now c.args.node s = sym c.in-Some-get.ensures.item in
    let at = c.requires.stands in
    let here = at.stands.here in
    parts.active-there at.at at.value at.path c.args.at.now at.stands (subst Settled (sym at.program_is) c.requires.settled) c.args.node c.requires.node.0 c.requires.node.1 s (subst (λ x. HasStructure x c.args.node s) (sym at.program_is) has)
    (c.requires.a_union s has) c.in-Some-member.member (sym (c.in-Some-member.ensures.member at.at at.value at.path here)) (c.in_default-step-2.ensures.part at.at at.value at.path here)
