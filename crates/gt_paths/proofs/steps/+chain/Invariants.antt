use Rattle.std.proofs.Common.{◌+◌, ◌*◌, length}
use Rattle.gt_paths.proofs.steps.+chain.Given as goal

abbrev pub decreases-leads_to_pointer : goal.decreases-leads_to_pointer
decreases-leads_to_pointer l = 2 * length l.places.now

abbrev pub decreases-pointer_goes_on : goal.decreases-pointer_goes_on
decreases-pointer_goes_on l = 2 * length l.rest.now + 1
