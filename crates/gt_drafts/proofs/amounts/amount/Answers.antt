use Rattle.std.proofs.Common.{◌≡◌, IfOk, sym, ap, subst}
use Rattle.gt_expr.proofs.ExpressionLemmas.{expression_of-tree, expression_of-refused}
use Rattle.gt_drafts.specs.Amounts.{amount_of, amount_of_reading}
use Rattle.gt_drafts.proofs.amounts.amount.Goals as goal

pub returns-in-Ok : goal.returns-in-Ok
unfolding amount_of
returns-in-Ok g c =
    subst (λ reading. IfOk c.tree_amount.result (λ a. a ≡ amount_of_reading (g.V.Values.value_of c.args.values.now) reading))
    (sym (expression_of-tree c.args.text.now c.in-Ok.tree c.in-Ok.ensures.tree)) c.tree_amount.ensures

pub returns-in-Err-At : goal.returns-in-Err-At
unfolding amount_of
returns-in-Err-At g c =
    ap (amount_of_reading (g.V.Values.value_of c.args.values.now))
    (sym (expression_of-refused c.args.text.now 0 0 c.in-Err-At.field-0-0 (rw c.in-Err-At.field-0-is at c.in-Err-At.ensures.stopped)))
