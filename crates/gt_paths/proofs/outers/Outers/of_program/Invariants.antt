use Rattle.std.proofs.Common.{◌≡◌, length}
use Rattle.gt_paths.specs.Ancestors.{AreSets, TellAncestors}
use Rattle.gt_paths.proofs.outers.Outers.of_program.Given as goal

abbrev pub invariant-loop-node : goal.invariant-loop-node
invariant-loop-node l = (length l.sets ≡ l.node) × AreSets l.containers l.sets × TellAncestors l.containers l.known.items
