use Rattle.gt_sound.proofs.LawLemmas as laws
use Rattle.gt_sound.proofs.laws.resolved_is_sound.Goals as goal

pub returns : goal.returns
returns c = record { sound = laws.resolved_is_sound }
