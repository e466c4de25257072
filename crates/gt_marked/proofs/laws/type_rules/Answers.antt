use Rattle.gt_marked.proofs.TypesLemmas.{type-allowed, type-alone}
use Rattle.gt_marked.proofs.laws.type_rules.Goals as goal

pub returns-clause-allowed : goal.returns-clause-allowed
returns-clause-allowed c = type-allowed

pub returns-clause-alone : goal.returns-clause-alone
returns-clause-alone c = type-alone
