use Rattle.std.proofs.Common.{sym, arith}
use Rattle.std.proofs.lemmas.Result.{err_from_is_err_and}
use Rattle.gt_marked.proofs.BoundLists.{bounds_fail, bounds_go_on, bounds_stop, bounds_end}
use Rattle.gt_marked.proofs.groups.bounds.Goals as goal

pub returns-in_default : goal.returns-in_default
returns-in_default c = bounds_stop _ c.loop.counter c.loop.bounds c.loop.rest.now _ c.loop.invariant (sym c.in_default.ensures)

pub returns-in_err-text : goal.returns-in_err-text
returns-in_err-text c =
    let p = err_from_is_err_and c.from_residual.result c.from_residual.ensures.1 in
    rw (p.1, p.2) (bounds_fail _ c.loop.counter c.loop.bounds c.loop.rest.now _ c.loop.invariant c.in-Some.after.now (omega arith) (sym c.in-Some.ensures) _ c.in_err-text.ensures)

pub loop-preserved : goal.loop-preserved
loop-preserved c =
    rw c.in_ok-push.ensures.added
    (bounds_go_on _ c.loop.counter c.loop.bounds c.loop.rest.now _ c.loop.invariant c.in-Some.after.now (omega arith) (sym c.in-Some.ensures) c.in_ok-text.text.now c.in_ok-text.after.now _ c.in_ok-text.ensures c.in_ok-kept_text.ensures)

pub returns : goal.returns
returns c = bounds_end _ c.loop.counter c.loop.bounds c.loop.rest.now _ c.loop.invariant (omega arith)
