use Rattle.std.proofs.Common.{sym, ◌∙◌}
use Rattle.gt_script.proofs.StepTexts.{same_first, left_both, both_nothing, longer, shorter}
use Rattle.gt_script.proofs.steps.are_same.Goals as goal

pub returns-in-None-None : goal.returns-in-None-None
returns-in-None-None c = sym (both_nothing c.loop-step.rest.now c.loop-step.others.now c.in-None-None.ensures.first c.in-None-None.ensures'.first) ∙ c.loop-step.invariant.4

pub returns-then-not-is_same_step : goal.returns-then-not-is_same_step
returns-then-not-is_same_step c =
    sym (same_first c.loop-step.rest.now c.in-Some-Some.step.now c.in-Some-Some.after.now c.loop-step.others.now c.in-Some-Some.another.now c.in-Some-Some.others_after.now
    c.in-Some-Some.ensures.first c.in-Some-Some.ensures.after c.loop-step.invariant.2 c.in-Some-Some.ensures'.first c.in-Some-Some.ensures'.after c.loop-step.invariant.3 _ c.if-not-is_same_step.ensures)
    ∙ c.loop-step.invariant.4

pub loop-step-preserved : goal.loop-step-preserved
loop-step-preserved c =
    let left = left_both c.loop-step.rest.now c.in-Some-Some.step.now c.in-Some-Some.after.now c.loop-step.others.now c.in-Some-Some.another.now c.in-Some-Some.others_after.now
    c.in-Some-Some.ensures.first c.in-Some-Some.ensures.after c.loop-step.invariant.2 c.in-Some-Some.ensures'.first c.in-Some-Some.ensures'.after c.loop-step.invariant.3 in (
      c.in-Some-Some.ensures.utf8,
      c.in-Some-Some.ensures'.utf8,
      left.0,
      left.1,
      sym (same_first c.loop-step.rest.now c.in-Some-Some.step.now c.in-Some-Some.after.now c.loop-step.others.now c.in-Some-Some.another.now c.in-Some-Some.others_after.now
          c.in-Some-Some.ensures.first c.in-Some-Some.ensures.after c.loop-step.invariant.2 c.in-Some-Some.ensures'.first c.in-Some-Some.ensures'.after c.loop-step.invariant.3 _ c.if-not-is_same_step.ensures)
          ∙ c.loop-step.invariant.4,
    )

pub returns-in_default : goal.returns-in_default
returns-in_default c =
    sym (shorter c.loop-step.others.now c.in_default.field-0-1.0.now c.in_default.field-0-1.1.now c.loop-step.rest.now c.in_default.ensures'.first c.in_default.ensures'.after c.loop-step.invariant.3 c.in_default.ensures.first)
    ∙ c.loop-step.invariant.4

pub returns-in_default-2 : goal.returns-in_default-2
returns-in_default-2 c =
    sym (longer c.loop-step.rest.now c.in_default.field-0-0.0.now c.in_default.field-0-0.1.now c.loop-step.others.now c.in_default.ensures.first c.in_default.ensures.after c.loop-step.invariant.2 c.in_default.ensures'.first)
    ∙ c.loop-step.invariant.4
