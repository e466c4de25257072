use Rattle.std.proofs.Common.{sym, arith}
use Rattle.gt_expr.proofs.IntegersLemmas.{octal_len, decimal_len, hex_len, hex_len-some}
use Rattle.gt_expr.proofs.integers.integer_len.Goals as goal

pub returns-in-0-clause-len : goal.returns-in-0-clause-len
returns-in-0-clause-len c =
    let e = hex_len c.args.text.now c.numeral_len.result c.if-is_hexadecimal.ensures c.numeral_len.ensures.len in
    sym (rw c.in-0.is at e)

pub returns-in_default-clause-len : goal.returns-in_default-clause-len
returns-in_default-clause-len c =
    hex_len-some c.numeral_len.result _ (hex_len c.args.text.now c.numeral_len.result c.if-is_hexadecimal.ensures c.numeral_len.ensures.len) (omega (arith, c.in_default))

pub returns-then-starts_with-clause-len : goal.returns-then-starts_with-clause-len
returns-then-starts_with-clause-len c = octal_len c.args.text.now _ c.if-is_hexadecimal.ensures c.if-starts_with.ensures.value c.numeral_len-then-starts_with.ensures.len

pub returns-else-starts_with-clause-len : goal.returns-else-starts_with-clause-len
returns-else-starts_with-clause-len c = decimal_len c.args.text.now _ c.if-is_hexadecimal.ensures c.if-starts_with.ensures.value c.numeral_len-else-starts_with.ensures.len
