use Rattle.std.proofs.Common.{◌≡◌, map, take}
use Rattle.gt_declare.specs.Programs.{root_of}
use Rattle.gt_declare.proofs.declaring.roots_of.Given as goal

abbrev pub invariant-loop-root : goal.invariant-loop-root
invariant-loop-root l = l.made.items ≡ map (root_of l.draft l.planes) (take l.root-index l.root-items)
