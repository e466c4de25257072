use Rattle.std.proofs.Common.{◌↔◌, ℕ, map, take}
use Rattle.gt_sets.specs.Sets.{IsIn}
use Rattle.gt_starts.specs.Begins.{IsInSome}
use Rattle.gt_starts.proofs.begins.joined.Given as goal

abbrev pub invariant-loop-set : goal.invariant-loop-set
invariant-loop-set l = (begin : ℕ) → IsIn l.whole begin ↔ IsInSome (map (λ set. set.value) (take l.set-index l.sets)) begin
