use Rattle.std.proofs.Common.{[], ◌∷◌, Some, take}
use Rattle.gt_paths.specs.OuterPaths.{AreReached}
use Rattle.gt_paths.proofs.frontiers.reached_from.Given as goal

abbrev pub invariant-loop-start : goal.invariant-loop-start
invariant-loop-start l = AreReached l.program (take l.start-index l.starts) (l.name ∷ []) (Some l.reached.keys)
