use Rattle.gt_script.specs.Scanning.{outcome_of}
use Rattle.gt_script.proofs.Settled.{outcome_is, one_outcome}
use Rattle.gt_script.proofs.laws.one_outcome.Goals as goal

pub returns : goal.returns
returns c = record {
  some = λ text. record { outcome = outcome_of text; is = outcome_is text };
  one = one_outcome;
}
