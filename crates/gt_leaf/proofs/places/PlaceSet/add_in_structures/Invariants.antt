use Rattle.std.proofs.Common.{◌≡◌, take}
use Rattle.gt_leaf.specs.Collecting.{with_structures}
use Rattle.gt_leaf.proofs.places.PlaceSet.add_in_structures.Given as goal

abbrev pub invariant-loop-s : goal.invariant-loop-s
invariant-loop-s l = l.self ≡ with_structures l.fn.self (take l.s-index l.structures)
