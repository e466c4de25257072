use Rattle.gt_text.proofs.Digits.{all_digits}
use Rattle.gt_text.proofs.integers.numeral.Goals as goal

pub digits_value-requires-clause-digits : goal.digits_value-requires-clause-digits
digits_value-requires-clause-digits c =
    all_digits c.args.base c.digit_count.result c.args.text.now c.split_at.result.0.now c.digit_count.ensures c.split_at.ensures.front
