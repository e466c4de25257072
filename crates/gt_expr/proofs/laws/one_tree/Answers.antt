use Rattle.gt_expr.proofs.ExpressionLemmas.{HasTree-one}
use Rattle.gt_expr.proofs.laws.one_tree.Goals as goal

pub returns : goal.returns
returns c = HasTree-one
