use Rattle.gt_tables.specs.Naming.{AreUnknown}
use Rattle.gt_tables.proofs.naming.empty_memo.Given as goal

abbrev pub invariant-loop : goal.invariant-loop
invariant-loop l = AreUnknown l.known.items l.index
