use Rattle.std.proofs.Common.{◌≡◌, map, take}
use Rattle.gt_declare.specs.Programs.{cache_of}
use Rattle.gt_declare.proofs.declaring.caches_of.Given as goal

abbrev pub invariant-loop-cache : goal.invariant-loop-cache
invariant-loop-cache l = l.made.items ≡ map cache_of (take l.cache-index l.cache-items)
