use Rattle.std.proofs.Common.{sym, subst}
use Rattle.gt_pages.specs.Changes.{Releases}
use Rattle.gt_pages.specs.Parts.{IsKept, parts_of}
use Rattle.gt_pages.proofs.CachedLemmas.{kept_taken, releases_taken}
use Rattle.gt_pages.proofs.store.Store.take_memory.Goals as goal

pub returns-in-Some-clause-kept : goal.returns-in-Some-clause-kept
returns-in-Some-clause-kept c =
    subst (λ q. IsKept q) (sym c.take_places.ensures) (kept_taken (parts_of c.args.self.now) c.in-Some.node c.requires.kept c.in-Some.ensures.cached)

pub returns-in-Some-clause-released : goal.returns-in-Some-clause-released
returns-in-Some-clause-released c =
    subst (λ q. Releases (parts_of c.args.self.now) q) (sym c.take_places.ensures)
    (releases_taken (parts_of c.args.self.now) c.in-Some.node c.requires.kept c.in-Some.ensures.cached)
