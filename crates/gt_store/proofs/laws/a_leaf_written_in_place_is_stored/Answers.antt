use Rattle.gt_store.proofs.LeafStored.{leaf-stored, static-leaf-stored}
use Rattle.gt_store.proofs.laws.a_leaf_written_in_place_is_stored.Goals as goal

pub returns-clause-value : goal.returns-clause-value
returns-clause-value c program layouts settled laid within = leaf-stored program layouts settled laid

pub returns-clause-statics : goal.returns-clause-statics
returns-clause-statics c program layouts settled laid within = static-leaf-stored program layouts settled laid
