use Rattle.std.proofs.Common.{◌≡◌, ◌<◌, ◌+◌, ◌^◌, take, drop}
use Rattle.std.specs.Char.{is_digit}
use Rattle.std.specs.List.{prefix_len}
use Rattle.gt_text.specs.Integer.{value_of}
use Rattle.gt_expr.proofs.integers.digits_len.Given as goal

abbrev pub invariant-loop-len : goal.invariant-loop-len
invariant-loop-len l = record {
  digits : prefix_len (λ c. is_digit c l.base) l.text ≡ l.len + prefix_len (λ c. is_digit c l.base) (drop l.len l.text);
  value : l.value ≡ value_of l.base (take l.len l.text);
  small : l.value < 2 ^ 63;
}
