use Rattle.std.proofs.Common.{◌-◌}
use Rattle.gt_pages.specs.Parts.{parts_of}
use Rattle.gt_pages.proofs.SweepLemmas.{SweptTo}
use Rattle.gt_pages.proofs.store.Store.sweep.Given as goal

abbrev pub invariant-entries : goal.invariant-entries
invariant-entries l = SweptTo (parts_of l.fn.self) l.from l.freed (parts_of l.self)

abbrev pub decreases-entries : goal.decreases-entries
decreases-entries l = l.self.pages - l.from
