use Rattle.std.proofs.Common.{length}
use Rattle.gt_links.specs.Lists.{nodes_of}
use Rattle.gt_pages.specs.declared.pages.TheConstants.{CACHED}
use Rattle.gt_pages.specs.Changes.{Releases}
use Rattle.gt_pages.specs.Parts.{IsKept, parts_of}
use Rattle.gt_pages.proofs.store.Store.release_cached.Given as goal

abbrev pub invariant-cached : goal.invariant-cached
invariant-cached l = record {
  kept : IsKept (parts_of l.self);
  released : Releases (parts_of l.fn.self) (parts_of l.self);
}

abbrev pub decreases-cached : goal.decreases-cached
decreases-cached l = length (nodes_of l.self.lists CACHED)
