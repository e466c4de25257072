use Rattle.gt_headers.proofs.FaultPlaces.{fault_within}
use Rattle.gt_headers.proofs.laws.text_places.Goals as goal

pub returns : goal.returns
returns c = record { fault = fault_within }
