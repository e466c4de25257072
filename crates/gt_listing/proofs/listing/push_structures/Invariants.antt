use Rattle.std.proofs.Common.{◌≡◌, ◌++◌, drop}
use Rattle.gt_listing.specs.Listing.{all_structure_lines}
use Rattle.gt_listing.proofs.listing.push_structures.Given as goal

abbrev pub invariant-loop-i : goal.invariant-loop-i
invariant-loop-i l =
    l.text ++ all_structure_lines l.program (drop l.i l.structures) (drop l.i l.planes) (drop l.i l.tails) ≡ l.initial.text ++ all_structure_lines l.program l.structures l.planes l.tails
