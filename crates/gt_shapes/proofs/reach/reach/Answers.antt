use Rattle.std.proofs.Common.{◌+◌, ◌<◌, length, sym, subst}
use Rattle.gt_shapes.specs.Graphs.{AreReached, Seen}
use Rattle.gt_shapes.specs.Searches.{seen_by}
use Rattle.gt_shapes.proofs.SearchLemmas.{IsSearch, unseen, followed, search_begins, search_follows, search_shrinks, search_ends}
use Rattle.gt_shapes.proofs.reach.reach.Goals as goal

pub search-init : goal.search-init
search-init c =
    subst (λ (s : Seen). IsSearch c.args.graph.now c.args.first.now s) (sym c.in_ok-find_all.ensures.found)
    (search_begins c.args.graph.now c.args.first.now (seen_by c.in_ok-search.search) c.in_ok-search.ensures.seen c.in_ok-search.ensures.waiting)

pub returns-in-None : goal.returns-in-None
returns-in-None c =
    record {
      reached =
          subst (λ flags. AreReached c.args.graph.now c.args.first.now flags) (sym c.in-None.ensures.seen)
          (search_ends c.args.graph.now c.args.first.now (seen_by c.search.search) c.search.invariant c.in-None.ensures.next);
    }

pub search-preserved : goal.search-preserved
search-preserved c =
    let graph = c.args.graph.now in
    let s : Seen = seen_by c.search.search in
    let n : Seen = seen_by c.next.new.self in
    let t : Seen = seen_by c.find_all-in-Some.new.self in
    subst (λ (x : Seen). IsSearch graph c.args.first.now x)
    (sym (followed graph c.edges_at.result.now s n t c.in-Some.place c.edges_at.ensures.same c.in-Some.ensures.seen c.in_ok-find_all-in-Some.ensures.found))
    (search_follows graph c.args.first.now s n.waiting c.in-Some.place c.in-Some.ensures.next c.search.invariant)

pub search-smaller : goal.search-smaller
search-smaller c =
    let graph = c.args.graph.now in
    let s : Seen = seen_by c.search.search in
    let n : Seen = seen_by c.next.new.self in
    let t : Seen = seen_by c.find_all-in-Some.new.self in
    subst (λ (x : Seen). unseen x.seen + length x.waiting < unseen s.seen + length s.waiting)
    (sym (followed graph c.edges_at.result.now s n t c.in-Some.place c.edges_at.ensures.same c.in-Some.ensures.seen c.in_ok-find_all-in-Some.ensures.found))
    (search_shrinks graph c.args.first.now s n.waiting c.in-Some.place c.in-Some.ensures.next)
