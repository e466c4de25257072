use Rattle.gt_fit.proofs.Selves.{in-place, all-in-place}
use Rattle.gt_fit.proofs.laws.fitting_leaves_are_written_in_place.Goals as goal

pub returns-clause-value : goal.returns-clause-value
returns-clause-value c = in-place

pub returns-clause-statics : goal.returns-clause-statics
returns-clause-statics c = all-in-place
