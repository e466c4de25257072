use Rattle.std.proofs.Common.{◌≡◌, ◌++◌, map, drop}
use Rattle.gt_edges.specs.Tables.{cache_walks}
use Rattle.gt_tables.proofs.caches.cache_walks.Given as goal

abbrev pub invariant-loop-cache : goal.invariant-loop-cache
invariant-loop-cache l = l.walks.items ++ map cache_walks (drop l.cache-index l.cache-items) ≡ map cache_walks l.cache-items
