-- What a search has seen.
use Rattle.gt_shapes.specs.Graphs.{Seen}
use Rattle.gt_shapes.specs.declared.reach.Search.{Search}

abbrev pub seen_by : Search → Seen
seen_by s = record { seen = s.seen.items; waiting = s.waiting.items }
