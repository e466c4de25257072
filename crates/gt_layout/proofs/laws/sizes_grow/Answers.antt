use Rattle.gt_layout.proofs.Capacities.{least_room}
use Rattle.gt_layout.proofs.laws.sizes_grow.Goals as goal

pub returns : goal.returns
returns c program layouts settled laid node plane growth capacity size got at sized =
    least_room program layouts.structures capacity settled laid.structures node plane growth.tails size got (laid.growths.each node.0 growth at) sized
