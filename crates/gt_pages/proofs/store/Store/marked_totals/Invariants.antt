use Rattle.std.proofs.Common.{◌-◌}
use Rattle.gt_pages.specs.Parts.{parts_of}
use Rattle.gt_pages.proofs.CountLemmas.{CountedTo}
use Rattle.gt_pages.proofs.store.Store.marked_totals.Given as goal

abbrev pub invariant-entries : goal.invariant-entries
invariant-entries l = CountedTo (parts_of l.self) l.from l.totals

abbrev pub decreases-entries : goal.decreases-entries
decreases-entries l = l.self.pages - l.from
