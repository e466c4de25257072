use Rattle.std.proofs.Common.{refl}
use Rattle.gt_expr.proofs.ExpressionLemmas.{expression_of-tree, expression_of-refused}
use Rattle.gt_marked.proofs.options.expression.Goals as goal

pub returns-in-Ok : goal.returns-in-Ok
returns-in-Ok c ts = rw (expression_of-tree c.args.text.now c.in-Ok.tree c.in-Ok.ensures.tree) refl

pub returns-in-Err-At : goal.returns-in-Err-At
returns-in-Err-At c ts =
    let refused = rw c.in-Err-At.field-0-is at c.in-Err-At.ensures.stopped in
    rw (expression_of-refused c.args.text.now 0 0 c.in-Err-At.fault refused)
