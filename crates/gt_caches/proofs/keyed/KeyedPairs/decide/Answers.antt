use Rattle.std.proofs.Common.{ap, ◌∙◌}
use Rattle.gt_caches.specs.Pairs.{decided_at}
use Rattle.gt_caches.proofs.Entries.{decided-entry}
use Rattle.gt_caches.proofs.keyed.KeyedPairs.decide.Goals as goal

pub returns : goal.returns
returns c = record {
  decided = decided-entry c.self.inside.held.entries c.args.i c.index_mut.result.now c.args.stays c.index_mut.ensures.value ∙ ap (λ entries. decided_at entries c.args.i c.args.stays) c.self.view_is;
}
