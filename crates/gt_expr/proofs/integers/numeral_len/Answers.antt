use Rattle.std.proofs.Common.{◌+◌, ap, ◌∙◌, arith}
use Rattle.std.specs.List.{prefix_len, list_any}
use Rattle.std.specs.Prelude.{codes, ◌==◌}
use Rattle.std.proofs.lemmas.List.{take_rest}
use Rattle.gt_expr.proofs.IntegersLemmas.{numeral_len-some, numeral_len-none}
use Rattle.gt_expr.proofs.integers.numeral_len.Goals as goal

pub returns-in-0-clause-len : goal.returns-in-0-clause-len
returns-in-0-clause-len c =
    numeral_len-none c.args.base c.args.text.now c.requires.0 c.requires.1 c.digits_len.result c.digits_len.ensures.within c.digits_len.ensures.digits c.digits_len.ensures.small c.digits_len.ensures.all c.in-0.is

pub returns-in_default-clause-len : goal.returns-in_default-clause-len
returns-in_default-clause-len c =
    ap (λ n. c.digits_len.result + n) (c.suffix_len.ensures.len ∙ ap (λ text. prefix_len (λ x. list_any (λ letter. letter == x) (codes "uUlL")) text) (take_rest c.args.text.now c.digits_len.result))
    ∙ numeral_len-some c.args.base c.args.text.now c.requires.0 c.requires.1 c.digits_len.result c.digits_len.ensures.within c.digits_len.ensures.digits c.digits_len.ensures.small c.digits_len.ensures.all (omega (arith, c.in_default))
