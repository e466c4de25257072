use Rattle.std.proofs.Common.{◌≡◌, [], drop}
use Rattle.gt_kinds.specs.Places.{places_from}
use Rattle.gt_kinds.proofs.named.places_of.Given as goal

abbrev pub invariant-loop-place : goal.invariant-loop-place
invariant-loop-place g l = places_from g.T.Named.called l.made l.place (drop l.place l.things) ≡ places_from g.T.Named.called [] 0 l.things
