use Rattle.std.proofs.Common.{◌∙◌, arith}
use Rattle.gt_expr.proofs.PartsLemmas.{parts_of-space}
use Rattle.gt_expr.proofs.scanning.without_white_space.Goals as goal

pub loop-rest-preserved : goal.loop-rest-preserved
loop-rest-preserved c = parts_of-space c.loop-rest.rest.now (omega arith) c.if-is_white_space.ensures.white_space ∙ c.loop-rest.invariant
