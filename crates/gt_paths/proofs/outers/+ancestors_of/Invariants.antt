use Rattle.std.proofs.Common.{take}
use Rattle.gt_paths.specs.Ancestors.{AreAbove, TellAncestors}
use Rattle.gt_paths.proofs.outers.+ancestors_of.Given as goal

abbrev pub decreases-ancestors_of : goal.decreases-ancestors_of
decreases-ancestors_of l = l.depth

abbrev pub invariant-loop-outer : goal.invariant-loop-outer
invariant-loop-outer l = AreAbove l.containers l.node (take l.outer-index l.outer-items) l.found × TellAncestors l.containers l.known.items
