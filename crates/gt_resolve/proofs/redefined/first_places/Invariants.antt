use Rattle.std.proofs.Common.{◌≡◌, [], drop}
use Rattle.gt_resolve.specs.Redefinitions.{first_places}
use Rattle.gt_resolve.proofs.redefined.first_places.Given as goal

-- the places of so many declarations and of those after them are those of all
abbrev pub invariant-loop-place : goal.invariant-loop-place
invariant-loop-place l = first_places l.tags l.place l.made (drop l.place l.ds) ≡ first_places l.tags 0 [] l.ds
