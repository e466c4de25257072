use Rattle.std.proofs.Common.{◌≡◌, length}
use Rattle.gt_expr.specs.Parts.{parts_of}
use Rattle.gt_expr.proofs.scanning.without_white_space.Given as goal

abbrev pub invariant-loop-rest : goal.invariant-loop-rest
invariant-loop-rest l = parts_of l.rest ≡ parts_of l.text

abbrev pub decreases-loop-rest : goal.decreases-loop-rest
decreases-loop-rest l = length l.rest
