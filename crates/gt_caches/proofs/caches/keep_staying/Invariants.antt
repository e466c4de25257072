use Rattle.std.proofs.Common.{◌≡◌, ◌+◌}
use Rattle.gt_graph.specs.Objects.{pairs_in}
use Rattle.gt_caches.specs.Pairs.{pairs_of}
use Rattle.gt_caches.proofs.Sweeps.{swept}
use Rattle.gt_caches.proofs.caches.keep_staying.Given as goal

abbrev pub invariant-loop-cache : goal.invariant-loop-cache
invariant-loop-cache l = record {
  swept : l.caches ≡ swept l.cache-index l.initial.caches;
  dropped : pairs_in (pairs_of l.caches) + l.dropped ≡ pairs_in (pairs_of l.initial.caches);
}
