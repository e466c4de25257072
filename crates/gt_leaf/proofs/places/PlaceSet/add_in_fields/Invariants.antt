use Rattle.std.proofs.Common.{◌≡◌, take}
use Rattle.gt_leaf.specs.Collecting.{with_fields}
use Rattle.gt_leaf.proofs.places.PlaceSet.add_in_fields.Given as goal

abbrev pub invariant-loop-f : goal.invariant-loop-f
invariant-loop-f l = l.self ≡ with_fields l.fn.self (take l.f-index l.fields)
