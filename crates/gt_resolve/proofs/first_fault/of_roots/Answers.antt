use Rattle.std.proofs.Common.{◌∙◌, refl, arith}
use Rattle.gt_resolve.specs.Faults.{root_faults, roots_faults}
use Rattle.gt_resolve.proofs.Firsts.{first_from_more, first_from_end}
use Rattle.gt_resolve.proofs.first_fault.of_roots.Goals as goal

pub loop-place-preserved : goal.loop-place-preserved
unfolding roots_faults
loop-place-preserved c =
    first_from_more (root_faults c.args.tails.now) (roots_faults c.args.tails.now) (λ i x xs. refl) c.loop-place.earliest c.of_root-earliest.result c.loop-place.place c.args.roots.now c.index-roots-place.result
    (omega arith) c.index-roots-place.is c.of_root-earliest.ensures.earliest ∙ c.loop-place.invariant

pub returns : goal.returns
unfolding roots_faults
returns c =
    record {
      earliest =
          first_from_end (roots_faults c.args.tails.now) (λ i. refl) c.loop-place.earliest c.loop-place.place c.args.roots.now (omega arith)
          ∙ c.loop-place.invariant;
    }
