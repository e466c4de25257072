use Rattle.std.proofs.Common.{◌∙◌, arith, ap, sym, map-id, ◌++◌, ◌∷◌, []}
use Rattle.std.proofs.lemmas.Iterator.Adapters.{YieldsList-from_vec}
use Rattle.std.proofs.lemmas.Iterator.Consumers.{YieldsList-end}
use Rattle.gt_layout.proofs.Growing.{found-more, found-no_more, found_of}
use Rattle.gt_layout.proofs.growths.all_found.Goals as goal

pub loop-growth-preserved-in-Continue-1 : goal.loop-growth-preserved-in-Continue-1
loop-growth-preserved-in-Continue-1 c =
    c.in_ok-push.ensures.items ∙ ap (λ gs. gs ++ c.in-Some-growth.growth ∷ []) c.loop-growth.invariant
    ∙ sym (ap (λ g. found_of (c.loop-growth.yielded ++ g ∷ [])) c.in-Some-growth.is ∙ found-more c.loop-growth.yielded c.in-Some-growth.growth)

pub loop-growth-preserved : goal.loop-growth-preserved
loop-growth-preserved c = c.loop-growth.invariant ∙ sym (ap (λ g. found_of (c.loop-growth.yielded ++ g ∷ [])) c.in_default.is ∙ found-no_more c.loop-growth.yielded)

pub returns : goal.returns
returns c =
    let all = YieldsList-end (YieldsList-from_vec c.args.known.items c.into_iter-growth-iterator.ensures.into_iter_gives.0 (omega (arith, c.into_iter-growth-iterator.ensures.into_iter_gives.1, c.args.known.ok))) c.loop-growth.yielded c.loop-growth.growth-iterator c.loop-growth.yielded_by c.next.result c.next.new.self c.in-None.is c.next.ensures.steps in
    c.of.ensures.items ∙ c.loop-growth.invariant ∙ ap found_of (sym (map-id c.loop-growth.yielded) ∙ all.0)
