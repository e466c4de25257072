use Rattle.gt_leaf.proofs.WayLaws.{ways-lead, no-others-lead}
use Rattle.gt_leaf.proofs.laws.known_ways_lead_by_name.Goals as goal

pub returns-clause-lead : goal.returns-clause-lead
returns-clause-lead c = ways-lead

pub returns-clause-no_others : goal.returns-clause-no_others
returns-clause-no_others c = no-others-lead
