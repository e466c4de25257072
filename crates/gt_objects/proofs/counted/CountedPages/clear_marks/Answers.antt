use Rattle.std.proofs.Common.{◌∙◌, sym, ap, subst, map}
use Rattle.gt_pages.specs.Slots.{block_of}
use Rattle.gt_objects.specs.Totals.{AreTotals}
use Rattle.gt_objects.proofs.Marking.{blocks_unmarked}
use Rattle.gt_objects.proofs.counted.CountedPages.clear_marks.Goals as goal

pub invariant_of-self : goal.invariant_of-self
invariant_of-self c =
    subst (AreTotals c.self.inside.totals) (sym (ap (λ p. map block_of p.slots) c.clear_marks.ensures.cleared ∙ blocks_unmarked c.self.inside.pages.slots)) c.self.invariant
