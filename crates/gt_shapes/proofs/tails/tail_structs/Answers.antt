use Rattle.std.proofs.Common.{◌∙◌, ◌++◌, ◌∷◌, [], Bool, ap, arith}
use Rattle.std.specs.Prelude.{if◌then◌else◌}
use Rattle.gt_shapes.proofs.TailLemmas.{structs_more, structs_end}
use Rattle.gt_shapes.proofs.tails.tail_structs.Goals as goal

pub loop-place-preserved : goal.loop-place-preserved
loop-place-preserved c =
    structs_more c.args.structures.now c.loop-place.place c.index-structures-place.result c.loop-place.places.items c.push_if.new.places.items (omega arith)
    c.index-structures-place.is
    (c.in_ok-push_if.ensures.pushed ∙ ap (λ (b : Bool). c.loop-place.places.items ++ (if b then c.loop-place.place ∷ [] else [])) c.is_tail_struct.ensures.tail)
    ∙ c.loop-place.invariant

pub returns : goal.returns
returns c =
    record { places = structs_end c.args.structures.now c.loop-place.place c.loop-place.places.items (omega arith) ∙ c.loop-place.invariant }
