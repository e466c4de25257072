use Rattle.std.proofs.Common.{nat_eq, map, ap, subst, ◌∙◌}
use Rattle.std.specs.List.{IsDistinct}
use Rattle.std.specs.Map.{keys_of}
use Rattle.gt_next.specs.Caching.{with_pair}
use Rattle.gt_caches.specs.Pairs.{pair_of}
use Rattle.gt_caches.proofs.Entries.{pairs_at, put-insert}
use Rattle.gt_caches.proofs.keyed.KeyedPairs.put.Goals as goal

pub returns-clause-put : goal.returns-clause-put
returns-clause-put c =
    let e = c.in_ok-insert.ensures.entries in
    ap pairs_at e ∙ put-insert c.args.key _ c.self.inside.held.entries (subst (λ es. IsDistinct nat_eq (keys_of es)) e c.in_ok-insert.ensures.unique)
    ∙ ap (λ entries. with_pair c.args.key c.args.value (map pair_of entries)) c.self.view_is
