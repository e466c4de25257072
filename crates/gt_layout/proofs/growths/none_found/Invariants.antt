use Rattle.std.proofs.Common.{◌≡◌, None, replicate}
use Rattle.gt_layout.proofs.growths.none_found.Given as goal

abbrev pub invariant-loop : goal.invariant-loop
invariant-loop l = l.known.items ≡ replicate l.index None
