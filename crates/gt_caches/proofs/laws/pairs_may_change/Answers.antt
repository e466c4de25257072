use Rattle.gt_caches.proofs.Heaps.{heap-with-pairs}
use Rattle.gt_caches.proofs.laws.pairs_may_change.Goals as goal

pub returns : goal.returns
returns c = heap-with-pairs
