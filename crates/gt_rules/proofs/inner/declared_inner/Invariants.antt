use Rattle.std.proofs.Common.{take}
use Rattle.std.specs.Prelude.{IsTrue}
use Rattle.std.specs.List.{AllZip}
use Rattle.std.specs.Bool.{Decides}
use Rattle.gt_rules.specs.Inner.{is_declared_inner}
use Rattle.gt_rules.proofs.inner.declared_inner.Given as goal

abbrev pub invariant-loop-structure : goal.invariant-loop-structure
invariant-loop-structure l = AllZip (λ ds b. Decides b (IsTrue (is_declared_inner ds))) (take l.structure-index l.structure-items) l.marks.items
