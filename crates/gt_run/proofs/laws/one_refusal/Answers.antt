use Rattle.gt_run.proofs.LawLemmas as laws
use Rattle.gt_run.proofs.laws.one_refusal.Goals as goal

pub returns-clause-refusal : goal.returns-clause-refusal
returns-clause-refusal c = laws.one_refusal

pub returns-clause-no_run : goal.returns-clause-no_run
returns-clause-no_run c = laws.no_run
