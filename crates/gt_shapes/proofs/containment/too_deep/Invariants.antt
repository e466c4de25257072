use Rattle.std.proofs.Common.{◌≡◌}
use Rattle.gt_shapes.specs.Graphs.{nested_flags}
use Rattle.gt_shapes.proofs.containment.too_deep.Given as goal

-- the flags of so many rounds
abbrev pub invariant-loop-round : goal.invariant-loop-round
invariant-loop-round l = l.flags.items ≡ nested_flags l.graph l._round
