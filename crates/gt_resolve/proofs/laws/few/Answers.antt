use Rattle.gt_resolve.proofs.FewLemmas.{structures_are_few, fields_are_few, roots_are_few, caches_are_few}
use Rattle.gt_resolve.proofs.laws.few.Goals as goal

pub returns : goal.returns
returns c = record { structures = structures_are_few; fields = fields_are_few; roots = roots_are_few; caches = caches_are_few }
