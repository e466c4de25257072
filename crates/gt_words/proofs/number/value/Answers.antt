use Rattle.std.proofs.Common.{◌≤◌, ◌^◌, arith}
use Rattle.gt_words.specs.Numbers.{value_of}
use Rattle.gt_words.proofs.Digits.{exceeds}
use Rattle.gt_words.proofs.number.value.Goals as goal

pub returns-in_err-checked_mul : goal.returns-in_err-checked_mul
returns-in_err-checked_mul c =
    let over = exceeds c.loop-c.value c.args.digits.now c.loop-c.c-index _ c.loop-c-test.true c.loop-c.invariant in
    let large : 2 ^ 32 ≤ value_of c.args.digits.now = omega (arith, over, c.in_err-checked_mul.ensures) in
    rw c.from_residual.ensures large

pub returns-in_err-value : goal.returns-in_err-value
returns-in_err-value c =
    let over = exceeds c.loop-c.value c.args.digits.now c.loop-c.c-index _ c.loop-c-test.true c.loop-c.invariant in
    let large : 2 ^ 32 ≤ value_of c.args.digits.now = omega (arith, over, c.in_err-value.ensures, c.in_ok-checked_mul.ensures, c.from.ensures, c.saturating_sub.ensures) in
    rw c.from_residual-in_err-value.ensures large
