use Rattle.std.proofs.Common.{◌≡◌, ◌++◌, take}
use Rattle.std.specs.List.{flat_map}
use Rattle.gt_canon.specs.Canon.{structure_lines}
use Rattle.gt_canon.proofs.canonical.push_structures.Given as goal

abbrev pub invariant-loop-s : goal.invariant-loop-s
invariant-loop-s l = (l.text ≡ l.initial.text ++ flat_map (structure_lines l.program) (take l.s-index l.s-items)) × (l.s-items ≡ l.program.structures)
