use Rattle.std.proofs.Common.{sym, ap, ◌∙◌}
use Rattle.std.specs.Prelude.{is_some, ◌&&◌}
use Rattle.gt_script.specs.Steps.{cut_steps, hops_at}
use Rattle.gt_script.proofs.StepTexts.{some_reads, reads_nothing}
use Rattle.gt_script.proofs.steps.are_steps.Goals as goal

pub returns-then-not-is_step : goal.returns-then-not-is_step
returns-then-not-is_step c =
    let left = is_some (hops_at (cut_steps c.in-Some.after.now).1) in
    ap (λ b. b && left) c.if-not-is_step.ensures ∙ sym (some_reads c.loop-step.rest.now c.in-Some.step.now c.in-Some.after.now c.in-Some.ensures.first) ∙ c.loop-step.invariant.2

pub loop-step-preserved : goal.loop-step-preserved
loop-step-preserved c =
    let left = is_some (hops_at (cut_steps c.in-Some.after.now).1) in (
      c.in-Some.ensures.utf8,
      c.in-Some.ensures.after,
      ap (λ b. b && left) c.if-not-is_step.ensures ∙ sym (some_reads c.loop-step.rest.now c.in-Some.step.now c.in-Some.after.now c.in-Some.ensures.first) ∙ c.loop-step.invariant.2,
    )

pub returns : goal.returns
returns c = sym (ap is_some (reads_nothing c.loop-step.rest.now c.in_default.ensures.first)) ∙ c.loop-step.invariant.2
