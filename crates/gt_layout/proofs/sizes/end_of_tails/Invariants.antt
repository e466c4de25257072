use Rattle.std.proofs.Common.{◌≡◌, ◌<◌, ◌^◌, take}
use Rattle.gt_layout.specs.Growths.{end_of_tails}
use Rattle.gt_layout.proofs.sizes.end_of_tails.Given as goal

abbrev pub invariant-loop-tail : goal.invariant-loop-tail
invariant-loop-tail l = (l.end ≡ end_of_tails l.capacity (take l.tail-index l.tails)) × (l.end < 2 ^ 53)
