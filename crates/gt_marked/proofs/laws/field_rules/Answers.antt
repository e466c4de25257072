use Rattle.gt_marked.proofs.FieldsLemmas.{field-allowed, field-alone}
use Rattle.gt_marked.proofs.laws.field_rules.Goals as goal

pub returns-clause-allowed : goal.returns-clause-allowed
returns-clause-allowed c = field-allowed

pub returns-clause-alone : goal.returns-clause-alone
returns-clause-alone c = field-alone
