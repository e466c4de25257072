use Rattle.std.proofs.Common.{◌≡◌, ◌++◌, take}
use Rattle.gt_canon.specs.Expressions.{dotted}
use Rattle.gt_canon.proofs.expressions.push_steps.Given as goal

abbrev pub invariant-loop-step : goal.invariant-loop-step
invariant-loop-step l = l.text ≡ l.initial.text ++ dotted (take l.step-index l.steps)
