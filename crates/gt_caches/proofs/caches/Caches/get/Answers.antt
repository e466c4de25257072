use Rattle.std.proofs.Common.{◌≡◌, ◌<◌, Some, length, ap, sym, subst, ◌∙◌}
use Rattle.std.specs.Prelude.{option_map, slice_get}
use Rattle.std.proofs.lemmas.Option.{slice_get-map}
use Rattle.gt_caches.specs.Pairs.{pair_of, pairs_of}
use Rattle.gt_caches.proofs.Places.{cache-at, pairs-at}
use Rattle.gt_caches.proofs.caches.Caches.get.Goals as goal

pub returns-clause-pair : goal.returns-clause-pair
returns-clause-pair c =
    let within : c.args.cache < length c.self.inside.caches.items = subst (λ xs. c.args.cache < length xs) (sym c.self.view_is) c.requires.there in
    λ pairs at.
    let there = subst (λ xs. slice_get (pairs_of xs) c.args.cache ≡ Some pairs) (sym c.self.view_is) at in
    ap (λ ps. slice_get ps c.args.i) (pairs-at c.self.inside.caches.items c.args.cache c.index.result.now pairs within c.index.ensures there)
    ∙ slice_get-map pair_of c.index.result.now c.args.i ∙ ap (option_map pair_of) (sym c.in_ok-key.ensures.entry)

pub returns-clause-stays : goal.returns-clause-stays
returns-clause-stays c =
    let within : c.args.cache < length c.self.inside.caches.items = subst (λ xs. c.args.cache < length xs) (sym c.self.view_is) c.requires.there in
    let here = cache-at c.self.inside.caches.items c.args.cache c.index.result.now within c.index.ensures in
    (c.index.result.now, subst (λ xs. slice_get xs c.args.cache ≡ Some c.index.result.now) c.self.view_is here, sym c.in_ok-key.ensures.entry)
