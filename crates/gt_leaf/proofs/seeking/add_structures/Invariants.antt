use Rattle.gt_starts.specs.Paths.{BeginsIn}
use Rattle.gt_leaf.specs.Seeking.{Gains, PathsInside}
use Rattle.gt_leaf.proofs.Gaining.{Before}
use Rattle.gt_leaf.proofs.seeking.add_structures.Given as goal

abbrev pub invariant-loop-node : goal.invariant-loop-node
invariant-loop-node l = Gains (BeginsIn l.fn.paths) (BeginsIn l.paths) (Before (PathsInside l.program) l.program.structures l.node)
