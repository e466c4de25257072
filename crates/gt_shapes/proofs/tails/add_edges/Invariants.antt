use Rattle.std.proofs.Common.{◌≡◌, drop}
use Rattle.gt_shapes.specs.Graphs.{with_edges}
use Rattle.gt_shapes.proofs.tails.add_edges.Given as goal

-- the edges from the places after so many come to what all come to
abbrev pub invariant-loop-from : goal.invariant-loop-from
invariant-loop-from l = with_edges (drop l.from-index l.froms) l.to l.graph ≡ with_edges l.froms l.to l.initial.graph
