use Rattle.std.proofs.Common.{◌≡◌, ◌++◌, drop}
use Rattle.gt_shapes.specs.TailGraphs.{tail_structs}
use Rattle.gt_shapes.proofs.tails.tail_structs.Given as goal

-- the places among so many structures and those among the others are all
abbrev pub invariant-loop-place : goal.invariant-loop-place
invariant-loop-place l = l.places.items ++ tail_structs l.place (drop l.place l.structures) ≡ tail_structs 0 l.structures
