use Rattle.std.proofs.Common.{◌≡◌, length}
use Rattle.gt_held.proofs.TypeLemmas.{NodesBefore}
use Rattle.gt_held.proofs.types.node_types.Given as goal

abbrev pub invariant-loop-place : goal.invariant-loop-place
invariant-loop-place l = (length l.made.items ≡ l.place) × NodesBefore l.place l.structures l.made.items
