use Rattle.std.proofs.Common.{◌≡◌, take, map}
use Rattle.gt_drafts.specs.Shapes.{held_in}
use Rattle.gt_shapes.proofs.containment.containments.Given as goal

-- the edges of so many structures
abbrev pub invariant-loop-s : goal.invariant-loop-s
invariant-loop-s l = l.graph.items ≡ map held_in (take l.s-index l.structures)
