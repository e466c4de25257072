use Rattle.std.proofs.Common.{◌≡◌, [], length}
use denote.Shadow.{shadow}
use denote.Text.{Utf8}
use Rattle.std.specs.Prelude.{is_some}
use Rattle.gt_script.specs.Steps.{cut_steps, hops_at}
use Rattle.gt_script.proofs.steps.are_steps.Given as goal

abbrev pub invariant-loop-step : goal.invariant-loop-step
invariant-loop-step l = shadow (Utf8 l.rest) × ((cut_steps l.rest).0 ≡ []) × (is_some (hops_at (cut_steps l.rest).1) ≡ is_some (hops_at (cut_steps l.text).1))

abbrev pub decreases-loop-step : goal.decreases-loop-step
decreases-loop-step l = length l.rest
