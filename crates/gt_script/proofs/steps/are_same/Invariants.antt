use Rattle.std.proofs.Common.{◌≡◌, length}
use denote.Shadow.{shadow}
use denote.Text.{Utf8}
use Rattle.std.specs.Cmp.Lexicographic.{pointwise}
use Rattle.gt_script.specs.Steps.{AreStepsIn, steps_in}
use Rattle.gt_script.specs.SameSteps.{same_step}
use Rattle.gt_script.proofs.steps.are_same.Given as goal

abbrev pub invariant-loop-step : goal.invariant-loop-step
invariant-loop-step l =
    shadow (Utf8 l.rest) × shadow (Utf8 l.others) × AreStepsIn l.rest × AreStepsIn l.others
    × (pointwise same_step (steps_in l.rest) (steps_in l.others) ≡ pointwise same_step (steps_in l.text) (steps_in l.other))

abbrev pub decreases-loop-step : goal.decreases-loop-step
decreases-loop-step l = length l.rest
