use Rattle.std.proofs.Common.{take}
use Rattle.gt_paths.specs.Marks.{AddsHeldOdd}
use Rattle.gt_paths.proofs.plain.add_odd_fields.Given as goal

abbrev pub invariant-loop-f : goal.invariant-loop-f
invariant-loop-f l = AddsHeldOdd l.program l.fn.odd.keys (take l.f-index l.fields) l.odd.keys
