use Rattle.gt_layout.proofs.Placed.{places_hold}
use Rattle.gt_layout.proofs.laws.places.Goals as goal

pub returns : goal.returns
returns c program layouts settled is = places_hold program layouts settled is
