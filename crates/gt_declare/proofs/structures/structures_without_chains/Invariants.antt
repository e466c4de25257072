use Rattle.std.proofs.Common.{◌≡◌, map, take}
use Rattle.gt_declare.specs.Programs.{unchained}
use Rattle.gt_declare.proofs.structures.structures_without_chains.Given as goal

abbrev pub invariant-loop-structure : goal.invariant-loop-structure
invariant-loop-structure l = l.made.items ≡ map (unchained l.draft l.planes) (take l.structure-index l.structure-items)
