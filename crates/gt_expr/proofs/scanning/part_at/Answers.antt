use Rattle.gt_expr.proofs.PartsLemmas.{integer_of-some}
use Rattle.gt_expr.proofs.scanning.part_at.Goals as goal

pub returns-in-Some-clause-some : goal.returns-in-Some-clause-some
returns-in-Some-clause-some c = integer_of-some c.integer_len-len.result c.args.text.now c.in-Some.value c.in-Some.ensures.value
