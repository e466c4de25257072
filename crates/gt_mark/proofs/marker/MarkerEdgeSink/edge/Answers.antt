use Rattle.std.proofs.Common.{Some}
use Rattle.gt_pages.specs.Slots.{new_mark}
use Rattle.gt_mark.proofs.Losing.{starts_after}
use Rattle.gt_mark.proofs.marker.MarkerEdgeSink.edge.Goals as goal

pub lose-requires : goal.lose-requires
lose-requires c = record {
  start = starts_after c.args.self.now.pages.now c.mark.new.self c.args.target (Some (new_mark c.args.walk c.args.count)) c.mark.result c.mark.ensures.marked c.mark.ensures.unchanged c.requires.takes;
}
