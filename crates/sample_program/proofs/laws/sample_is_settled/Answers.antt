use Rattle.sample_program.proofs.laws.sample_is_settled.Goals as goal
use Rattle.sample_program.proofs.Whole.{settled}

-- src/laws.rt:6:1
pub returns : goal.returns
returns c = settled
