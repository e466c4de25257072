use Rattle.gt_headers.proofs.LawLemmas.{declared_is_settled}
use Rattle.gt_headers.proofs.laws.declared_programs_are_settled.Goals as goal

pub returns : goal.returns
returns c = record { settled = declared_is_settled }
