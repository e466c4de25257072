use Rattle.std.proofs.Common.{◌≡◌, List, ℕ, Some, sym, ap, subst, ◌∙◌}
use Rattle.std.specs.Prelude.{encode_utf8_all}
use Rattle.std.proofs.lemmas.Str.{encodes-chars}
use Rattle.gt_script.specs.Steps.{steps_in, steps_at, AreStepsIn}
use Rattle.gt_script.proofs.Walks.{place}
use Rattle.gt_script.proofs.StepTexts.{begins_first, begins_later, steps_whole, none_whole, steps_known}
use Rattle.gt_script.proofs.steps.Steps.parse.Goals as goal
use Rattle.gt_script.proofs.steps.Steps.parse.Goals.{In_ok-of}

pub are_steps-requires : goal.are_steps-requires
are_steps-requires c = begins_first c.args.text.now c.step_place.result (c.step_place.ensures.place ∙ ap place c.as_bytes.ensures.value) c.if-step_place-ne0.false

pub returns-then-step_place-ne0 : goal.returns-then-step_place-ne0
returns-then-step_place-ne0 c = record {
  steps = begins_later c.as_bytes.result.now c.step_place.result c.step_place.ensures.place c.step_place.ensures.within c.if-step_place-ne0.true ∙ ap steps_at c.as_bytes.ensures.value;
}

pub returns-then-not-are_steps : goal.returns-then-not-are_steps
returns-then-not-are_steps c = record {
  steps = none_whole c.args.text.now (begins_first c.args.text.now c.step_place.result (c.step_place.ensures.place ∙ ap place c.as_bytes.ensures.value) c.if-step_place-ne0.false) c.if-not-are_steps.ensures;
}

are : (c : In_ok-of) → AreStepsIn c.args.text.now
are c = (begins_first c.args.text.now c.step_place.result (c.step_place.ensures.place ∙ ap place c.as_bytes.ensures.value) c.if-step_place-ne0.false, sym c.if-not-are_steps.ensures)

same : (c : In_ok-of) → encode_utf8_all c.in_ok-of.field-0 ≡ c.args.text.now
same c = ap encode_utf8_all c.in_ok-of.ensures.text ∙ encodes-chars c.args.text.now c.utf8.text

pub invariant_of-result : goal.invariant_of-result
invariant_of-result c = subst AreStepsIn (sym (same c)) (are c)

pub returns : goal.returns
returns c = record {
  steps = ap (λ (t : List ℕ). Some (steps_in t)) (same c) ∙ steps_known c.args.text.now (are c) ∙ steps_whole c.args.text.now (are c).0;
}
