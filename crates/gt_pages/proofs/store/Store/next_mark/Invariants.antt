use Rattle.std.proofs.Common.{◌-◌}
use Rattle.gt_entries.specs.Cells.{is_marked}
use Rattle.gt_pages.specs.Parts.{parts_of}
use Rattle.gt_pages.proofs.NextLemmas.{Skips}
use Rattle.gt_pages.proofs.store.Store.next_mark.Given as goal

abbrev pub invariant-entries : goal.invariant-entries
invariant-entries l = Skips is_marked (parts_of l.self) l.after l.from

abbrev pub decreases-entries : goal.decreases-entries
decreases-entries l = l.self.pages - l.from.page
