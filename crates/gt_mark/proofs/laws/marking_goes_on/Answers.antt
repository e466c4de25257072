use Rattle.gt_mark.proofs.Further.{can_go_on, marks_both, names_stay, rounds_both}
use Rattle.gt_mark.proofs.laws.marking_goes_on.Goals as goal

pub returns-clause-can : goal.returns-clause-can
returns-clause-can c = can_go_on

pub returns-clause-names : goal.returns-clause-names
returns-clause-names c = names_stay

pub returns-clause-both : goal.returns-clause-both
returns-clause-both c = marks_both

pub returns-clause-rounds : goal.returns-clause-rounds
returns-clause-rounds c = rounds_both
