use Rattle.std.proofs.Common.{◌-◌}
use Rattle.gt_pages.specs.Changes.{ClearsMarks}
use Rattle.gt_pages.specs.Parts.{parts_of}
use Rattle.gt_pages.proofs.store.Store.clear_entries.Given as goal

abbrev pub invariant-entries : goal.invariant-entries
invariant-entries l = ClearsMarks (parts_of l.fn.self) l.from (parts_of l.self)

abbrev pub decreases-entries : goal.decreases-entries
decreases-entries l = l.self.pages - l.from
