use Rattle.std.proofs.Common.{take}
use Rattle.std.specs.List.{AllZip}
use Rattle.std.specs.Bool.{Decides}
use Rattle.gt_types.specs.Paths.{MayStep}
use Rattle.gt_paths.proofs.commons.struct_row.Given as goal

abbrev pub invariant-loop-f : goal.invariant-loop-f
invariant-loop-f l = AllZip (λ f b. Decides b (MayStep l.program l.s f)) (take l.f-index l.f-items) l.row.items
