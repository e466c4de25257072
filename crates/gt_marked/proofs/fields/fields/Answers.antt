use Rattle.std.proofs.Common.{sym, arith}
use Rattle.std.proofs.lemmas.Result.{err_from_is_err_and}
use Rattle.gt_marked.proofs.FieldLists.{fields_fail, fields_go_on, fields_stop, fields_end}
use Rattle.gt_marked.proofs.fields.fields.Goals as goal

pub returns-in_err-one : goal.returns-in_err-one
returns-in_err-one c =
    let p = err_from_is_err_and c.from_residual.result c.from_residual.ensures.1 in
    rw (p.1, p.2) (fields_fail _ c.loop.counter c.loop.fields c.loop.rest.now _ (omega arith) c.loop.invariant _ c.in_err-one.ensures)

pub returns-in-Some : goal.returns-in-Some
returns-in-Some c =
    rw c.in_ok-push.ensures.added
    (fields_stop _ c.loop.counter c.loop.fields c.loop.rest.now _ (omega arith) c.loop.invariant c.in_ok-one.one c.in_ok-one.after.now c.in_ok-one.ensures c.in-Some.following.now (sym c.in-Some.ensures))

pub loop-preserved : goal.loop-preserved
loop-preserved c =
    rw c.in_ok-push.ensures.added
    (fields_go_on _ c.loop.counter c.loop.fields c.loop.rest.now _ (omega arith) c.loop.invariant c.in_ok-one.one c.in_ok-one.after.now c.in_ok-one.ensures (sym c.in_default.ensures))

pub returns : goal.returns
returns c = fields_end _ c.loop.counter c.loop.fields c.loop.rest.now _ (omega arith) c.loop.invariant
