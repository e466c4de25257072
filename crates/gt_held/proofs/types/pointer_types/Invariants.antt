use Rattle.std.proofs.Common.{◌≡◌, length}
use Rattle.gt_held.specs.Types.{ArePointersOf}
use Rattle.gt_held.proofs.types.pointer_types.Given as goal

abbrev pub invariant-loop-place : goal.invariant-loop-place
invariant-loop-place l = (length l.made.items ≡ l.place) × ArePointersOf l.place l.made.items
