use Rattle.std.proofs.Common.{◌≡◌, map, take}
use Rattle.gt_starts.proofs.begins.copied.Given as goal

abbrev pub invariant-loop-set : goal.invariant-loop-set
invariant-loop-set l = map (λ set. set.value) l.made.items ≡ map (λ set. set.value) (take l.set-index l.sets)
