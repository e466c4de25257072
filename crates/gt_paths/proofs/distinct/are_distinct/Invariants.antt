use Rattle.std.proofs.Common.{◌≢◌, take}
use Rattle.std.specs.Prelude.{All, AllPairs}
use Rattle.gt_paths.proofs.distinct.are_distinct.Given as goal

abbrev pub invariant-loop-place : goal.invariant-loop-place
invariant-loop-place l = All (λ s. AllPairs (λ f g. f.name ≢ g.name) s.fields) (take l.place l.s-items)
