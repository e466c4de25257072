use Rattle.gt_script.proofs.StepTexts.{steps_read, steps_spelled}
use Rattle.gt_script.proofs.laws.steps_as_spelled.Goals as goal

pub returns : goal.returns
returns c = record { again = steps_read; taken = steps_spelled }
