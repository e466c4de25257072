use Rattle.gt_options.proofs.Settled.{not_both, not_two, one}
use Rattle.gt_options.proofs.laws.one_settlement.Goals as goal

pub returns : goal.returns
returns c = record { one = one; not_two = not_two; not_both = not_both }
