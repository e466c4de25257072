use Rattle.std.proofs.Common.{◌≤◌, ◌*◌, ◌^◌, ap, arith}
use Rattle.std.specs.Char.{digit_value}
use Rattle.gt_text.specs.Integer.{value_of}
use Rattle.gt_split.proofs.Digits.{exceeds}
use Rattle.gt_split.proofs.numbers.digits_value.Goals as goal

pub returns-in_err-checked_mul : goal.returns-in_err-checked_mul
returns-in_err-checked_mul c =
    let over = exceeds c.args.base c.loop-c.value c.args.digits.now c.loop-c.c-index _ (omega arith) c.loop-c-test.true c.loop-c.invariant.value in
    let large : 2 ^ 64 ≤ value_of c.args.base c.args.digits.now = omega (arith, over, c.in_err-checked_mul.ensures, ap (λ b. c.loop-c.value * b) c.from-in-loop-c.ensures) in
    rw c.from_residual-in_err-checked_mul.ensures large

pub returns-in_err-value : goal.returns-in_err-value
returns-in_err-value c =
    let over = exceeds c.args.base c.loop-c.value c.args.digits.now c.loop-c.c-index _ (omega arith) c.loop-c-test.true c.loop-c.invariant.value in
    let large : 2 ^ 64 ≤ value_of c.args.base c.args.digits.now = omega (arith, over, c.in_err-value.ensures, c.in_ok-checked_mul.ensures, c.in_ok-digit.ensures.value, ap digit_value c.from.ensures, c.from-in-loop-c-2.ensures, ap (λ b. c.loop-c.value * b) c.from-in-loop-c.ensures) in
    rw c.from_residual-in_err-value.ensures large
