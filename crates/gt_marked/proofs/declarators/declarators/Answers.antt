use Rattle.std.proofs.Common.{arith}
use Rattle.std.proofs.lemmas.Result.{err_from_is_err_and}
use Rattle.gt_marked.proofs.DeclaratorLists.{declarators_fail, declarators_break, declarators_go_on, declarators_stop, declarators_end}
use Rattle.gt_marked.proofs.declarators.declarators.Goals as goal

pub returns-in_err-one : goal.returns-in_err-one
returns-in_err-one c =
    let p = err_from_is_err_and c.from_residual.result c.from_residual.ensures.1 in
    rw (p.1, p.2) (declarators_fail _ c.loop.counter c.loop.declarators c.loop.rest.now _ (omega arith) c.loop.invariant _ c.in_err-one.ensures)

pub returns-in_err-goes_on : goal.returns-in_err-goes_on
returns-in_err-goes_on c =
    let p = err_from_is_err_and c.from_residual-in_err-goes_on.result c.from_residual-in_err-goes_on.ensures.1 in
    rw (p.1, p.2) (declarators_break _ c.loop.counter c.loop.declarators c.loop.rest.now _ (omega arith) c.loop.invariant c.in_ok-one.one c.in_ok-one.after.now c.in_ok-one.ensures _ c.in_err-goes_on.ensures)

pub returns-then-not-goes_on : goal.returns-then-not-goes_on
returns-then-not-goes_on c =
    let ends = rw c.if-not-goes_on.true at c.in_ok-goes_on.ensures in
    rw c.in_ok-push.ensures.added
    (declarators_stop _ c.loop.counter c.loop.declarators c.loop.rest.now _ (omega arith) c.loop.invariant c.in_ok-one.one c.in_ok-one.after.now c.in_ok-one.ensures c.in_ok-goes_on.after.now ends)

pub loop-preserved : goal.loop-preserved
loop-preserved c =
    let more = rw c.if-not-goes_on.false at c.in_ok-goes_on.ensures in
    rw c.in_ok-push.ensures.added
    (declarators_go_on _ c.loop.counter c.loop.declarators c.loop.rest.now _ (omega arith) c.loop.invariant c.in_ok-one.one c.in_ok-one.after.now c.in_ok-one.ensures c.in_ok-goes_on.after.now more)

pub returns : goal.returns
returns c = declarators_end _ c.loop.counter c.loop.declarators c.loop.rest.now _ (omega arith) c.loop.invariant
