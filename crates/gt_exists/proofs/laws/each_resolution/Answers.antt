use Rattle.gt_exists.proofs.Resolutions.{some_resolution}
use Rattle.gt_exists.proofs.laws.each_resolution.Goals as goal

pub returns : goal.returns
returns c = record { resolution = some_resolution }
