use Rattle.gt_marked.proofs.MarkedLemmas.{marked-allowed, marked-alone}
use Rattle.gt_marked.proofs.laws.marked_rules.Goals as goal

pub returns-clause-allowed : goal.returns-clause-allowed
returns-clause-allowed c = marked-allowed

pub returns-clause-alone : goal.returns-clause-alone
returns-clause-alone c = marked-alone
