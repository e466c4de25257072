use Rattle.std.proofs.Common.{filter, map}
use Rattle.gt_pages.specs.Slots.{block_of, is_marked}
use Rattle.gt_objects.proofs.counted.marked_totals.Goals as goal

pub returns : goal.returns
returns c = record { totals = c.of_marks.ensures (map block_of (filter is_marked c.args.pages.now.slots)) c.marked_totals.ensures.totals }
