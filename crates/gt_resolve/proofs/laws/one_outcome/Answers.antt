use Rattle.gt_resolve.proofs.Outcomes.{not_both, one_draft, one_fault}
use Rattle.gt_resolve.proofs.laws.one_outcome.Goals as goal

pub returns : goal.returns
returns c = record { not_both = not_both; draft = one_draft; fault = one_fault }
