use Rattle.std.proofs.Common.{◌≡◌, [], drop, length, replicate}
use Rattle.gt_shapes.specs.Graphs.{with_turned}
use Rattle.gt_shapes.proofs.tails.reverse_edges.Given as goal

-- the edges of the places after so many come to what all come to
abbrev pub invariant-loop-place : goal.invariant-loop-place
invariant-loop-place l = with_turned l.place (drop l.place l.graph) l.turned.items ≡ with_turned 0 l.graph (replicate (length l.graph) [])
