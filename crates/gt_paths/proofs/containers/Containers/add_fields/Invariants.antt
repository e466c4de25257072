use Rattle.std.proofs.Common.{take}
use Rattle.gt_paths.specs.Containers.{AddsHeld}
use Rattle.gt_paths.proofs.containers.Containers.add_fields.Given as goal

abbrev pub invariant-loop-f : goal.invariant-loop-f
invariant-loop-f l = AddsHeld l.fn.self l.outer (take l.f-index l.fields) l.self
