use Rattle.gt_sound.proofs.LawLemmas as laws
use Rattle.gt_sound.proofs.laws.read_is_well_made.Goals as goal

pub returns : goal.returns
returns c = record { well_made = laws.read_is_well_made }
