use Rattle.std.proofs.Common.{◌≡◌, Some, set, ◌<◌, ◌≤◌, length, ap, ◌∙◌, sym, subst, arith}
use Rattle.std.specs.Prelude.{slice_get}
use Rattle.gt_next.specs.Caching.{with_pair}
use Rattle.gt_caches.specs.Pairs.{pairs_of}
use Rattle.gt_caches.proofs.Places.{pairs-put}
use Rattle.gt_caches.proofs.Totals.{total-more}
use Rattle.gt_caches.proofs.caches.Caches.put.Goals as goal

pub invariant_of-self-2 : goal.invariant_of-self-2
invariant_of-self-2 c =
    let within : c.args.cache < length c.self.inside.caches.items = subst (λ xs. c.args.cache < length xs) (sym c.self.view_is) c.requires.there in
    let le : c.len-before.result ≤ c.len.result = omega (arith, c.in_ok-put.ensures.more, c.len.ensures.len, c.len-before.ensures.len) in
    total-more c.self.inside.caches.items c.args.cache c.self.inside.total c.len.result c.len-before.result c.put.new.self c.index_mut-pairs.result.now within c.index_mut-pairs.ensures.value c.self.invariant c.len.ensures.len c.len-before.ensures.len le

pub returns-clause-put : goal.returns-clause-put
returns-clause-put c =
    let within : c.args.cache < length c.self.inside.caches.items = subst (λ xs. c.args.cache < length xs) (sym c.self.view_is) c.requires.there in
    λ pairs at.
    let there = subst (λ xs. slice_get (pairs_of xs) c.args.cache ≡ Some pairs) (sym c.self.view_is) at in
    pairs-put c.self.inside.caches.items c.args.cache c.args.key c.args.value c.put.new.self c.index_mut-pairs.result.now pairs within c.index_mut-pairs.ensures.value c.in_ok-put.ensures.put there
    ∙ ap (λ xs. set (pairs_of xs) c.args.cache (with_pair c.args.key c.args.value pairs)) c.self.view_is
