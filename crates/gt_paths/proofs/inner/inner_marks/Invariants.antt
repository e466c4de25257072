use Rattle.std.proofs.Common.{take}
use Rattle.std.specs.List.{AllZip}
use Rattle.std.specs.Prelude.{Any}
use Rattle.std.specs.Bool.{Decides}
use Rattle.gt_types.specs.Paths.{NamesOuter, own_expressions}
use Rattle.gt_paths.proofs.inner.inner_marks.Given as goal

abbrev pub invariant-loop-s : goal.invariant-loop-s
invariant-loop-s l = AllZip (λ s b. Decides b (Any NamesOuter (own_expressions s))) (take l.s-index l.s-items) l.marks.items
