use Rattle.std.proofs.Common.{◌≡◌, take}
use Rattle.gt_leaf.specs.Collecting.{with_roots}
use Rattle.gt_leaf.proofs.places.PlaceSet.add_in_roots.Given as goal

abbrev pub invariant-loop-r : goal.invariant-loop-r
invariant-loop-r l = l.self ≡ with_roots l.fn.self (take l.r-index l.roots)
