use Rattle.gt_expr.proofs.ExpressionLemmas.{IsExpression-spelled}
use Rattle.gt_expr.proofs.laws.spelling_gives_trees.Goals as goal

pub returns : goal.returns
returns c = IsExpression-spelled
