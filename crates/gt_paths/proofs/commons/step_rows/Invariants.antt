use Rattle.std.proofs.Common.{take}
use Rattle.std.specs.List.{AllZip}
use Rattle.gt_paths.specs.Marks.{IsRow}
use Rattle.gt_paths.proofs.commons.step_rows.Given as goal

abbrev pub invariant-loop-s : goal.invariant-loop-s
invariant-loop-s l = AllZip (IsRow l.program) (take l.s-index l.s-items) l.rows.items
