use Rattle.std.proofs.Common.{sym, arith}
use Rattle.std.proofs.lemmas.Result.{err_from_is_err_and}
use Rattle.gt_marked.proofs.OptionLists.{options_fail, options_go_on, options_stop, options_end}
use Rattle.gt_marked.proofs.options.some_options.Goals as goal

pub returns-in_err-one : goal.returns-in_err-one
returns-in_err-one c =
    let p = err_from_is_err_and c.from_residual.result c.from_residual.ensures.1 in
    rw (p.1, p.2) (options_fail _ c.loop.counter c.loop.options c.loop.rest.now _ (omega arith) c.loop.invariant _ c.in_err-one.ensures)

pub returns : goal.returns
returns c = options_end _ c.loop.counter c.loop.options c.loop.rest.now _ (omega arith) c.loop.invariant

pub returns-in_default : goal.returns-in_default
returns-in_default c =
    rw c.in_ok-push.ensures.added
    (options_stop _ c.loop.counter c.loop.options c.loop.rest.now _ (omega arith) c.loop.invariant c.in_ok-one.one c.in_ok-one.after.now c.in_ok-one.ensures (sym c.in_default.ensures))

pub loop-preserved : goal.loop-preserved
loop-preserved c =
    rw c.in_ok-push.ensures.added
    (options_go_on _ c.loop.counter c.loop.options c.loop.rest.now _ (omega arith) c.loop.invariant c.in_ok-one.one c.in_ok-one.after.now c.in_ok-one.ensures c.in-Some.next.now (sym c.in-Some.ensures))
