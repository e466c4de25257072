use Rattle.std.proofs.Common.{◌+◌, length}
use Rattle.gt_shapes.specs.Searches.{seen_by}
use Rattle.gt_shapes.proofs.SearchLemmas.{IsSearch, unseen}
use Rattle.gt_shapes.proofs.reach.reach.Given as goal

-- what was seen is reached, and what was seen and does not wait was followed
abbrev pub invariant-search : goal.invariant-search
invariant-search l = IsSearch l.graph l.first (seen_by l.search)

abbrev pub decreases-search : goal.decreases-search
decreases-search l = unseen l.search.seen.items + length l.search.waiting.items
