use Rattle.gt_expr.proofs.ExpressionLemmas.{expression_of-tree, IsExpression-expression_of, expression_of-refused, IsRefused-expression_of}
use Rattle.gt_expr.proofs.laws.one_answer.Goals as goal

pub returns-clause-tree : goal.returns-clause-tree
returns-clause-tree c = expression_of-tree

pub returns-clause-is : goal.returns-clause-is
returns-clause-is c = IsExpression-expression_of

pub returns-clause-fault : goal.returns-clause-fault
returns-clause-fault c = expression_of-refused

pub returns-clause-refused : goal.returns-clause-refused
returns-clause-refused c = IsRefused-expression_of
