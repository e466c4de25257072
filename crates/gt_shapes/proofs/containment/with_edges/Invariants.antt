use Rattle.std.proofs.Common.{◌≡◌, take, map, not}
use Rattle.gt_drafts.specs.Shapes.{is_nil}
use Rattle.gt_shapes.proofs.containment.with_edges.Given as goal

-- the flags of so many places
abbrev pub invariant-loop-edges : goal.invariant-loop-edges
invariant-loop-edges l = l.flags.items ≡ map (λ edges. not (is_nil edges)) (take l.edges-index l.graph)
