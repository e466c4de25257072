use Rattle.std.proofs.Common.{◌≡◌, take}
use Rattle.gt_layout.specs.Progress.{with_tails}
use Rattle.gt_layout.proofs.growths.add_tails.Given as goal

abbrev pub invariant-loop-tail : goal.invariant-loop-tail
invariant-loop-tail l = l.tails.items ≡ with_tails (take l.tail-index l.more) l.initial.tails.items
