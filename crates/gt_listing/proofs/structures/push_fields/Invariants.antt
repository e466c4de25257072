use Rattle.std.proofs.Common.{◌≡◌, ◌++◌, drop}
use Rattle.gt_listing.specs.Listing.{field_lines}
use Rattle.gt_listing.proofs.structures.push_fields.Given as goal

abbrev pub invariant-loop-i : goal.invariant-loop-i
invariant-loop-i l = l.text ++ field_lines l.program (drop l.i l.fields) (drop l.i l.spots) ≡ l.initial.text ++ field_lines l.program l.fields l.spots
