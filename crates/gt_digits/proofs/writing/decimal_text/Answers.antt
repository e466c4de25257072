use Rattle.std.proofs.Common.{◌≡◌, subst, IfOk, arith}
use Rattle.std.specs.String.{string_bytes}
use Rattle.gt_digits.proofs.ShowDigits.{digits-decimal}
use Rattle.gt_digits.proofs.writing.decimal_text.Goals as goal

pub returns : goal.returns
returns c = subst (λ bs. IfOk c.format.result (λ s. string_bytes s ≡ bs)) (digits-decimal c.args.n (omega arith)) c.format.ensures.ok
