use Rattle.std.proofs.Common.{◌≡◌, subst, IfOk, rules}
use Rattle.std.specs.Fmt.{signed_decimal}
use Rattle.std.specs.String.{string_bytes}
use Rattle.gt_answers.proofs.Decimals.{written-number}
use Rattle.gt_answers.proofs.texts.decimal_text.Goals as goal

pub returns : goal.returns
returns c =
    let written : IfOk c.format.result (λ s. string_bytes s ≡ signed_decimal c.args.n) = search rules in
    subst (λ bs. IfOk c.format.result (λ s. string_bytes s ≡ bs)) (written-number c.args.n c.ranges.n.sfits) written
