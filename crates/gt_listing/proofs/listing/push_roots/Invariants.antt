use Rattle.std.proofs.Common.{◌≡◌, ◌++◌, take}
use Rattle.std.specs.List.{flat_map}
use Rattle.gt_listing.specs.Listing.{root_line}
use Rattle.gt_listing.proofs.listing.push_roots.Given as goal

abbrev pub invariant-loop-r : goal.invariant-loop-r
invariant-loop-r l = (l.text ≡ l.initial.text ++ flat_map (root_line l.program) (take l.r-index l.r-items)) × (l.r-items ≡ l.program.roots)
