use Rattle.std.proofs.Common.{◌≡◌, take}
use Rattle.gt_shapes.specs.Graphs.{one_deeper}
use Rattle.gt_shapes.proofs.containment.one_deeper.Given as goal

-- the flags of so many places
abbrev pub invariant-loop-edges : goal.invariant-loop-edges
invariant-loop-edges l = l.deeper.items ≡ one_deeper (take l.edges-index l.graph) l.flags
