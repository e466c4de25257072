use Rattle.gt_marked.proofs.MarkersLemmas.{marker-allowed, marker-alone}
use Rattle.gt_marked.proofs.laws.marker_rules.Goals as goal

pub returns-clause-allowed : goal.returns-clause-allowed
returns-clause-allowed c = marker-allowed

pub returns-clause-alone : goal.returns-clause-alone
returns-clause-alone c = marker-alone
