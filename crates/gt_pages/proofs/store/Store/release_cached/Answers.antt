use Rattle.std.proofs.Common.{◌<◌, length, sym, subst}
use Rattle.gt_links.specs.Lists.{nodes_of}
use Rattle.gt_pages.specs.declared.pages.TheConstants.{CACHED}
use Rattle.gt_pages.specs.Changes.{Releases}
use Rattle.gt_pages.specs.Parts.{IsKept, parts_of}
use Rattle.gt_pages.proofs.CachedLemmas.{fewer_cached, kept_without, releases_step}
use Rattle.gt_pages.proofs.store.Store.release_cached.Goals as goal

pub cached-smaller : goal.cached-smaller
cached-smaller c =
    subst (λ q. length (nodes_of q.lists CACHED) < length (nodes_of c.cached.self.lists CACHED)) (sym c.release.ensures)
    (fewer_cached (parts_of c.cached.self) c.in-Some.node c.cached.invariant.kept c.in-Some.ensures.held)

pub cached-preserved : goal.cached-preserved
cached-preserved c = record {
  kept = subst (λ q. IsKept q) (sym c.release.ensures) (kept_without (parts_of c.cached.self) c.in-Some.node c.cached.invariant.kept c.in-Some.ensures.held);
  released =
      subst (λ q. Releases (parts_of c.args.self.now) q) (sym c.release.ensures)
      (releases_step (parts_of c.cached.self) c.in-Some.node c.cached.invariant.kept c.in-Some.ensures.held (parts_of c.args.self.now) c.cached.invariant.released);
}
