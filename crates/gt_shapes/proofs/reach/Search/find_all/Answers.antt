use Rattle.std.proofs.Common.{◌∙◌, ◌+◌, drop, sym, ap, arith}
use Rattle.std.proofs.lemmas.List.{at_drop_more, at_drop_all}
use Rattle.gt_shapes.specs.Graphs.{with_places}
use Rattle.gt_shapes.specs.Searches.{seen_by}
use Rattle.gt_shapes.proofs.reach.Search.find_all.Goals as goal

pub loop-place-preserved : goal.loop-place-preserved
unfolding with_places
loop-place-preserved c =
    ap (with_places (drop (c.loop-place.place-index + 1) c.args.places.now)) c.in_ok-find.ensures.found
    ∙ sym (at_drop_more (λ places. with_places places (seen_by c.loop-place.self)) c.args.places.now c.loop-place.place-index 0 (omega arith))
    ∙ c.loop-place.invariant

pub returns : goal.returns
unfolding with_places
returns c =
    record {
      found =
          sym (at_drop_all (λ places. with_places places (seen_by c.loop-place.self)) c.args.places.now c.loop-place.place-index (omega arith))
          ∙ c.loop-place.invariant;
    }
