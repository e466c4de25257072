use Rattle.std.proofs.Common.{◌≡◌, replicate, []}
use Rattle.gt_directory.proofs.directory.empty_shelves.Given as goal

abbrev pub invariant-loop-i : goal.invariant-loop-i
invariant-loop-i g l = l.shelves.items ≡ replicate l._i []
