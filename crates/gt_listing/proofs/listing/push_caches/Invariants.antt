use Rattle.std.proofs.Common.{◌≡◌, ◌++◌, take}
use Rattle.std.specs.List.{flat_map}
use Rattle.gt_listing.specs.Listing.{cache_line}
use Rattle.gt_listing.proofs.listing.push_caches.Given as goal

abbrev pub invariant-loop-c : goal.invariant-loop-c
invariant-loop-c l = (l.text ≡ l.initial.text ++ flat_map (cache_line l.program) (take l.c-index l.c-items)) × (l.c-items ≡ l.program.caches)
