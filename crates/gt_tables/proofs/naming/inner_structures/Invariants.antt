use Rattle.gt_types.specs.Paths.{IsInner}
use Rattle.gt_tables.specs.Naming.{TellsBefore}
use Rattle.gt_tables.proofs.naming.inner_structures.Given as goal

abbrev pub invariant-loop-structure : goal.invariant-loop-structure
invariant-loop-structure l = TellsBefore l.program l.inner.items l.structure-index (IsInner l.program)
