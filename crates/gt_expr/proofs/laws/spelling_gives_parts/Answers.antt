use Rattle.gt_expr.proofs.Spelled.{parts_of-spelled}
use Rattle.gt_expr.proofs.laws.spelling_gives_parts.Goals as goal

pub returns : goal.returns
returns c = λ text ps s. parts_of-spelled s
