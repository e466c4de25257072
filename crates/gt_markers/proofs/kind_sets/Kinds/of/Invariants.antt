use Rattle.std.proofs.Common.{take}
use Rattle.gt_markers.specs.KindSets.{AreKindsOf}
use Rattle.gt_markers.proofs.kind_sets.Kinds.of.Given as goal

-- they are the kinds of so many options
abbrev pub invariant-loop-option : goal.invariant-loop-option
invariant-loop-option l = AreKindsOf (take l.option-index l.options) l.kinds
