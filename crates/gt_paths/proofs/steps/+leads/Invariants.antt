use Rattle.std.proofs.Common.{◌+◌, ◌*◌, length}
use Rattle.gt_paths.proofs.ByStep.{NoneBefore}
use Rattle.gt_paths.proofs.steps.+leads.Given as goal

abbrev pub decreases-leads_to_number : goal.decreases-leads_to_number
decreases-leads_to_number l = 5 * length l.steps.now

abbrev pub decreases-goes_on : goal.decreases-goes_on
decreases-goes_on l = 5 * length l.rest.now + 1

abbrev pub decreases-place_leads : goal.decreases-place_leads
decreases-place_leads l = 5 * length l.rest.now + 2

abbrev pub decreases-field_leads : goal.decreases-field_leads
decreases-field_leads l = 5 * length l.rest.now + 3

abbrev pub decreases-some_field_leads : goal.decreases-some_field_leads
decreases-some_field_leads l = 5 * length l.rest.now + 4

abbrev pub invariant-some_field_leads-loop-place : goal.invariant-some_field_leads-loop-place
invariant-some_field_leads-loop-place l = NoneBefore l.program l.node l.step l.rest l.f-items l.place
