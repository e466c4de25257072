use Rattle.gt_tables.specs.Naming.{AreRead}
use Rattle.gt_tables.proofs.naming.readers.Given as goal

abbrev pub invariant-loop-place : goal.invariant-loop-place
invariant-loop-place l = AreRead l.program l.all.items l.place l.known.items
