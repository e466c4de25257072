use Rattle.gt_determined.proofs.Refusals.{unchanged}
use Rattle.gt_determined.proofs.laws.refusals_change_nothing.Goals as goal

pub returns : goal.returns
returns c program layouts is_read s t command why next = unchanged program layouts s t why command next
