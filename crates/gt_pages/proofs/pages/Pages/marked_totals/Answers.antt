use Rattle.std.proofs.Common.{filter, map, subst}
use Rattle.gt_pages.specs.Counts.{AreTotals}
use Rattle.gt_pages.specs.Slots.{block_of, is_marked}
use Rattle.gt_pages.proofs.pages.Pages.marked_totals.Goals as goal

pub returns : goal.returns
returns c = record { totals = subst (λ v. AreTotals c.marked_totals.result (map block_of (filter is_marked v.slots))) c.self.view_is c.marked_totals.ensures }
