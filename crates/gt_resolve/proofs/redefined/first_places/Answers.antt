use Rattle.std.proofs.Common.{◌∙◌, arith}
use Rattle.gt_resolve.proofs.Classes.{first_places_more, first_places_end}
use Rattle.gt_resolve.proofs.redefined.first_places.Goals as goal

pub loop-place-preserved : goal.loop-place-preserved
loop-place-preserved c =
    first_places_more c.args.tags c.args.ds.now c.loop-place.place c.index-ds-place.result c.loop-place.made c.in_ok-made.made (omega arith)
    c.index-ds-place.is c.in_ok-made.ensures.first
    ∙ c.loop-place.invariant

pub returns : goal.returns
returns c =
    record { places = first_places_end c.args.tags c.args.ds.now c.loop-place.place c.loop-place.made (omega arith) ∙ c.loop-place.invariant }
