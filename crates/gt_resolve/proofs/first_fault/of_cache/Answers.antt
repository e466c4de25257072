use Rattle.gt_resolve.proofs.Firsts.{first_from_both, first_from_if}
use Rattle.gt_resolve.proofs.first_fault.of_cache.Goals as goal

pub returns : goal.returns
returns c =
    record {
      earliest =
          first_from_both _ _ _ _ _ (first_from_if _ _ _ _ _ _ _ c.with_fault-earliest.ensures.same c.names_nothing.ensures.same) c.with_fault.ensures.same;
    }
