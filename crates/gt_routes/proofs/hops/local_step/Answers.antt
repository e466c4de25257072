use Rattle.std.proofs.Common.{◌≡◌, ◌∙◌, ap, sym, subst, false, None}
use Rattle.std.specs.Prelude.{IfOk}
use Rattle.gt_types.specs.Contains.{itself}
use Rattle.gt_next.specs.declared.answer.Why.TheVariants.{WrongType}
use Rattle.gt_next.specs.Spots.{element_of}
use Rattle.gt_next.specs.Paths.{is_some_type}
use Rattle.gt_routes.specs.Steps.{LeadsFrom, RefusedFrom}
use Rattle.gt_routes.proofs.Suits.{index-from, name-from, refused-by}
use Rattle.gt_routes.proofs.hops.local_step.Goals as goal

pub returns-then-not-has_elements-clause-refused : goal.returns-then-not-has_elements-clause-refused
returns-then-not-has_elements-clause-refused c why e =
    let none : is_some_type (element_of c.args.at.now.ty.now) ≡ false = ap (λ t. is_some_type (element_of t)) (sym c.ty.ensures) ∙ sym c.has_elements.ensures ∙ c.if-not-has_elements.true in
    refused-by c.args.program.now c.args.at.now c.args.hop.now WrongType why e
    (subst (λ h. RefusedFrom c.args.program.now c.args.at.now h WrongType) (sym c.in-Index.is) (index-from c.args.program.now c.args.at.now c.in-Index.place none))

pub returns-else-not-has_elements-clause-leads : goal.returns-else-not-has_elements-clause-leads
returns-else-not-has_elements-clause-leads c =
    subst (λ h. IfOk c.element_step.result (λ to. LeadsFrom c.args.program.now c.args.at.now h to)) (sym c.in-Index.is) c.element_step.ensures.leads

pub returns-else-not-has_elements-clause-refused : goal.returns-else-not-has_elements-clause-refused
returns-else-not-has_elements-clause-refused c why e =
    subst (λ h. RefusedFrom c.args.program.now c.args.at.now h why) (sym c.in-Index.is) (c.element_step.ensures.refused why e)

pub returns-in-Some-clause-refused : goal.returns-in-Some-clause-refused
returns-in-Some-clause-refused c why e = subst (λ h. RefusedFrom c.args.program.now c.args.at.now h why) (sym c.in-Name.is) (c.name_step.ensures.refused why e)

pub returns-in-None-clause-refused : goal.returns-in-None-clause-refused
returns-in-None-clause-refused c why e =
    let none : itself c.args.at.now.ty.now ≡ None = ap itself (sym c.ty-in-Name.ensures) ∙ sym c.structure_of.ensures ∙ c.in-None.is in
    refused-by c.args.program.now c.args.at.now c.args.hop.now WrongType why e
    (subst (λ h. RefusedFrom c.args.program.now c.args.at.now h WrongType) (sym c.in-Name.is) (name-from c.args.program.now c.args.at.now c.in-Name.name none))
