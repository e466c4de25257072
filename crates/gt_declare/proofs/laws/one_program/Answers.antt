use Rattle.gt_declare.proofs.Wholes as wholes
use Rattle.gt_declare.proofs.laws.one_program.Goals as goal

pub returns : goal.returns
returns c draft sound = wholes.one_program draft sound
