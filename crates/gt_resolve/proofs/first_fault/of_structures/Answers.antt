use Rattle.std.proofs.Common.{◌∙◌, refl, arith}
use Rattle.gt_resolve.specs.Faults.{structure_faults, structures_faults}
use Rattle.gt_resolve.proofs.Firsts.{first_from_more, first_from_end}
use Rattle.gt_resolve.proofs.first_fault.of_structures.Goals as goal

pub loop-place-preserved : goal.loop-place-preserved
unfolding structures_faults
loop-place-preserved c =
    first_from_more (structure_faults c.args.shapes.now.cyclic.items c.args.shapes.now.deep.items c.args.shapes.now.tails.items) (structures_faults c.args.shapes.now.cyclic.items c.args.shapes.now.deep.items c.args.shapes.now.tails.items) (λ i x xs. refl) c.loop-place.earliest c.in_ok-earliest.earliest c.loop-place.place c.args.structures.now c.index-structures-place.result
    (omega arith) c.index-structures-place.is c.in_ok-earliest.ensures.earliest ∙ c.loop-place.invariant

pub returns : goal.returns
unfolding structures_faults
returns c =
    record {
      earliest =
          first_from_end (structures_faults c.args.shapes.now.cyclic.items c.args.shapes.now.deep.items c.args.shapes.now.tails.items) (λ i. refl) c.loop-place.earliest c.loop-place.place c.args.structures.now (omega arith)
          ∙ c.loop-place.invariant;
    }
