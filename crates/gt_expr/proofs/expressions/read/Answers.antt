use Rattle.std.proofs.Common.{◌∙◌}
use Rattle.gt_expr.proofs.ExpressionLemmas.{is_expression, has_no_tree, refuses_it, reads_it}
use Rattle.gt_expr.proofs.expressions.read.Goals as goal

pub returns-in-Ok-clause-tree : goal.returns-in-Ok-clause-tree
returns-in-Ok-clause-tree c =
    is_expression c.args.text.now c.deref.result.now (c.deref.ensures.value ∙ (rw c.in-Some.is at c.in_ok-parts.ensures.parts)) c.in-Ok.tree
    (rw c.in-Some.is at c.in_ok-parts.ensures.few) c.in-Ok.ensures

pub returns-in-Ok-clause-expression : goal.returns-in-Ok-clause-expression
returns-in-Ok-clause-expression c =
    reads_it c.args.text.now c.deref.result.now (c.deref.ensures.value ∙ (rw c.in-Some.is at c.in_ok-parts.ensures.parts)) c.in-Ok.tree c.in-Ok.ensures

pub returns-in-Ok-clause-bad : goal.returns-in-Ok-clause-bad
returns-in-Ok-clause-bad c = λ few none.
    let is = is_expression c.args.text.now c.deref.result.now (c.deref.ensures.value ∙ (rw c.in-Some.is at c.in_ok-parts.ensures.parts)) c.in-Ok.tree few c.in-Ok.ensures in
    absurd (none c.in-Ok.tree is.has_tree)

pub returns-clause-stopped : goal.returns-clause-stopped
returns-clause-stopped c =
    refuses_it c.args.text.now c.deref.result.now (c.deref.ensures.value ∙ (rw c.in-Some.is at c.in_ok-parts.ensures.parts)) c.args.file c.args.at c.fault-in-Err-NotGiven.result
    (rw c.in-Some.is at c.in_ok-parts.ensures.few) (rw c.in-Err-NotGiven.field-0-is at c.in-Err-NotGiven.ensures) c.fault-in-Err-NotGiven.ensures

pub returns-clause-expression : goal.returns-clause-expression
returns-clause-expression c = λ t is.
    absurd (has_no_tree c.args.text.now c.deref.result.now (c.deref.ensures.value ∙ (rw c.in-Some.is at c.in_ok-parts.ensures.parts)) (rw c.in-Err-NotGiven.field-0-is at c.in-Err-NotGiven.ensures) t is.has_tree)
