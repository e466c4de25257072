use Rattle.std.proofs.Common.{◌≡◌, ◌-◌, ◌++◌, vec_len}
use Rattle.gt_expr.specs.Parts.{parts_of}
use Rattle.gt_expr.proofs.expressions.all_parts.Given as goal

abbrev pub invariant-loop-rest : goal.invariant-loop-rest
invariant-loop-rest l = l.parts.items ++ parts_of l.rest ≡ parts_of l.text

abbrev pub decreases-loop-rest : goal.decreases-loop-rest
decreases-loop-rest l = 257 - vec_len l.parts
