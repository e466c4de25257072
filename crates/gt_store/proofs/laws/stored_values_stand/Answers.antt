use Rattle.gt_store.proofs.Stored.{stored-stands, stored-statics-stand}
use Rattle.gt_store.proofs.laws.stored_values_stand.Goals as goal

pub returns-clause-value : goal.returns-clause-value
returns-clause-value c program layouts settled laid within = stored-stands program layouts settled laid

pub returns-clause-statics : goal.returns-clause-statics
returns-clause-statics c program layouts settled laid within = stored-statics-stand program layouts settled laid
