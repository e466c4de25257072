use Rattle.std.proofs.Common.{◌≡◌, take, map}
use Rattle.gt_shapes.specs.TailGraphs.{members_of}
use Rattle.gt_shapes.proofs.tails.all_members.Given as goal

-- the members of so many structures
abbrev pub invariant-loop-s : goal.invariant-loop-s
invariant-loop-s l = l.graph.items ≡ map members_of (take l.s-index l.structures)
