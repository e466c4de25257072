use Rattle.std.proofs.Common.{◌≡◌, drop}
use Rattle.gt_shapes.specs.Graphs.{with_places}
use Rattle.gt_shapes.specs.Searches.{seen_by}
use Rattle.gt_shapes.proofs.reach.Search.find_all.Given as goal

-- the places after so many come to what all come to
abbrev pub invariant-loop-place : goal.invariant-loop-place
invariant-loop-place l = with_places (drop l.place-index l.places) (seen_by l.self) ≡ with_places l.places (seen_by l.initial.self)
