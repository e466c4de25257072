use Rattle.std.proofs.Common.{◌≡◌, [], replicate}
use Rattle.gt_caches.proofs.caches.Caches.new.Given as goal

abbrev pub invariant-loop : goal.invariant-loop
invariant-loop l = l.caches.items ≡ replicate l.counter []
