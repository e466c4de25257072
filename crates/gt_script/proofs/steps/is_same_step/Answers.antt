use Rattle.std.proofs.Common.{sym, ◌∙◌}
use Rattle.gt_script.proofs.StepTexts.{same_fields, indexed, field_and_element, element_and_field}
use Rattle.gt_script.proofs.steps.is_same_step.Goals as goal

pub returns-in-Some-Some : goal.returns-in-Some-Some
returns-in-Some-Some c = λ hop another h g.
    c.eq.ensures ∙ same_fields c.args.step.now c.in-Some-Some.name.now c.args.other.now c.in-Some-Some.other.now (sym c.in-Some-Some.ensures) (sym c.in-Some-Some.ensures') hop another h g

pub returns-in-None-None : goal.returns-in-None-None
returns-in-None-None c = λ hop another h g.
    c.is_same_element.ensures hop another (indexed c.args.step.now hop (sym c.in-None-None.ensures) h) (indexed c.args.other.now another (sym c.in-None-None.ensures') g)

pub returns-in_default : goal.returns-in_default
returns-in_default c = field_and_element c.args.step.now c.in_default.field-0-0.now c.args.other.now (sym c.in_default.ensures) (sym c.in_default.ensures')

pub returns-in_default-2 : goal.returns-in_default-2
returns-in_default-2 c = element_and_field c.args.step.now c.args.other.now c.in_default.field-0-1.now (sym c.in_default.ensures) (sym c.in_default.ensures')
