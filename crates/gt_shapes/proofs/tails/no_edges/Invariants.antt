use Rattle.std.proofs.Common.{◌≡◌, [], replicate}
use Rattle.gt_shapes.proofs.tails.no_edges.Given as goal

-- so many places
abbrev pub invariant-loop-place : goal.invariant-loop-place
invariant-loop-place l = l.graph.items ≡ replicate l._place []
