use Rattle.std.proofs.Common.{◌+◌, ◌*◌, take}
use Rattle.gt_layout.proofs.Growing.{FoundSoFar}
use Rattle.gt_layout.proofs.growths.+growths.Given as goal

abbrev pub decreases-find_growth : goal.decreases-find_growth
decreases-find_growth l = 2 * l.depth + 1

abbrev pub decreases-find_tails : goal.decreases-find_tails
decreases-find_tails l = 2 * l.depth

abbrev pub invariant-find_tails-loop-field : goal.invariant-find_tails-loop-field
invariant-find_tails-loop-field l = FoundSoFar l.program l.planes l.fn.known.items l.known.items (take l.field-index l.field-items) l.taken.items l.tails.items
