use Rattle.std.proofs.Common.{sym, subst, arith}
use Rattle.gt_links.specs.Lists.{Holds}
use Rattle.gt_pages.specs.declared.pages.TheConstants.{CACHED}
use Rattle.gt_pages.specs.Changes.{UsesOne}
use Rattle.gt_pages.specs.Parts.{IsKept, parts_of}
use Rattle.gt_pages.proofs.CachedLemmas.{kept_without}
use Rattle.gt_pages.proofs.CloseLemmas.{some_list}
use Rattle.gt_pages.proofs.OpenLemmas.{not_cached}
use Rattle.gt_pages.proofs.UsedLemmas.{used_one}
use Rattle.gt_pages.proofs.store.Store.release_for.Goals as goal

pub returns-in-Some-clause-kept : goal.returns-in-Some-clause-kept
returns-in-Some-clause-kept c =
    subst (λ q. IsKept q) (sym c.release.ensures) (kept_without (parts_of c.args.self.now) c.in-Some.node c.requires.kept c.in-Some.ensures.cached)

pub returns-in-Some-clause-own : goal.returns-in-Some-clause-own
returns-in-Some-clause-own c =
    subst (λ q. Holds q.lists CACHED c.args.page → ⊥) (sym c.release.ensures)
    (not_cached (parts_of c.args.self.now) c.in-Some.node c.args.page c.requires.kept
    (λ held. some_list c.in-Some.node c.args.page (c.in-Some.ensures.own held)))

pub returns-in-Some-clause-used : goal.returns-in-Some-clause-used
returns-in-Some-clause-used c =
    let p = parts_of c.args.self.now in
    let count = c.requires.kept.lists.count in
    subst (λ q. UsesOne p.lists q.lists) (sym c.release.ensures)
    (used_one p.lists c.in-Some.node (omega (arith, count)) (c.lists_are_disjoint.ensures.distinct CACHED) c.in-Some.ensures.cached)
