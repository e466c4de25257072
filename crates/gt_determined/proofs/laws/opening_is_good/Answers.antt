use Rattle.gt_determined.proofs.Openings.{opening-good}
use Rattle.gt_determined.proofs.laws.opening_is_good.Goals as goal

pub returns : goal.returns
returns c program layouts is_read pages min_expand min_heapsize told s some few expand size opening = opening-good program layouts s opening some few expand size
