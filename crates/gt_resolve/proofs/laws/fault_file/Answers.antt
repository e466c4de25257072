use Rattle.gt_resolve.proofs.FaultPlaces.{first_fault_in}
use Rattle.gt_resolve.proofs.laws.fault_file.Goals as goal

pub returns : goal.returns
returns c = first_fault_in
