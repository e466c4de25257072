use Rattle.std.proofs.Common.{◌≡◌, sym, ◌∙◌, arith}
use Rattle.std.proofs.lemmas.Result.{err_from_is_err_and}
use Rattle.gt_expr.specs.Reading.{unary_at, tree_at}
use Rattle.gt_expr.proofs.Lines.{tree_at_deeper, tree_at_end, line_at_level, level_at_unary, level_at_fails, level_at_begins, more_at_goes_on, more_at_fails, more_at_ends, more_at_none}
use Rattle.gt_expr.proofs.reading.+reading.Goals as goal
use Rattle.gt_expr.proofs.reading.+reading.Goals.{binary-else-loop-test, binary-then-loop-test+in_default}

pub inner_line-returns-in_default : goal.inner_line-returns-in_default
inner_line-returns-in_default t c = tree_at_end c.args.depth c.args.line c.args.parts.now (omega (arith, c.in_default.ensures))

pub inner_line-returns-in-Conditional : goal.inner_line-returns-in-Conditional
inner_line-returns-in-Conditional t c =
    rw (tree_at_deeper c.args.depth c.in-Some.depth c.args.line c.args.parts.now (omega (arith, c.in-Some.ensures)), c.in-Conditional.is) c.conditional.ensures

pub inner_line-returns-in-Level : goal.inner_line-returns-in-Level
inner_line-returns-in-Level t c =
    rw (tree_at_deeper c.args.depth c.in-Some.depth c.args.line c.args.parts.now (omega (arith, c.in-Some.ensures)), c.in-Level.is, line_at_level) c.binary.ensures

pub binary-returns-then-level-eq0 : goal.binary-returns-then-level-eq0
binary-returns-then-level-eq0 t c =
    rw (level_at_unary (unary_at (tree_at c.args.depth)) c.args.level c.args.parts.now c.if-level-eq0.true) c.unary.ensures

pub binary-returns-in_err-left : goal.binary-returns-in_err-left
binary-returns-in_err-left t c =
    let p = err_from_is_err_and c.from_residual.result c.from_residual.ensures.1 in
    rw (p.1, p.2) (level_at_fails c.in_err-left.field-0.0 (unary_at (tree_at c.args.depth)) c.args.level c.args.parts.now (omega arith) c.in_err-left.ensures)

pub binary-loop-init : goal.binary-loop-init
binary-loop-init t c =
    level_at_begins (unary_at (tree_at c.args.depth)) c.args.level c.args.parts.now c.in_ok-left.left c.in_ok-left.rest.now (omega arith) c.in_ok-left.ensures

pub binary-returns-in_err-right : goal.binary-returns-in_err-right
binary-returns-in_err-right t c =
    let p = err_from_is_err_and c.from_residual-in_err-right.result c.from_residual-in_err-right.ensures.1 in
    rw (p.1, p.2) (more_at_fails _ c.args.level _ c.loop.counter c.loop.left c.loop.rest.now c.in-Some.op c.in-Some.after.now _ c.loop-test.true (sym c.in-Some.ensures) c.loop.invariant c.in_err-right.field-0.0 c.in_err-right.ensures)

pub binary-loop-preserved : goal.binary-loop-preserved
binary-loop-preserved t c =
    let left : c.in_ok-new.field-0 ≡ c.loop.left = c.in_ok-new.ensures in
    let right : c.in_ok-new-2.field-0 ≡ c.in_ok-right.right = c.in_ok-new-2.ensures in
    rw (left, right) (more_at_goes_on _ c.args.level _ c.loop.counter c.loop.left c.loop.rest.now c.in-Some.op c.in-Some.after.now _ c.loop-test.true (sym c.in-Some.ensures) c.loop.invariant c.in_ok-right.right c.in_ok-right.after.now c.in_ok-right.ensures)

pub binary-returns : goal.binary-returns
binary-returns t c =
    elim c.loop-test.branch [
      | binary-else-loop-test w ↦ sym c.loop.invariant ∙ more_at_none _ c.args.level _ c.loop.left c.loop.rest.now (omega (arith, w.loop-test.false))
      | binary-then-loop-test+in_default w ↦ sym c.loop.invariant ∙ more_at_ends _ c.args.level _ c.loop.left c.loop.rest.now (sym w.in_default.ensures)
    ]
