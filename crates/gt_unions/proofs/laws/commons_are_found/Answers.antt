use Rattle.gt_unions.proofs.CommonFound.{common-found}
use Rattle.gt_unions.proofs.laws.commons_are_found.Goals as goal

pub returns : goal.returns
returns c = λ program node s settled has union. common-found program settled node s has union
