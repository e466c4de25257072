use Rattle.gt_tracing.proofs.Traced.{heap_traced}
use Rattle.gt_tracing.proofs.laws.heaps_are_traced.Goals as goal

pub returns : goal.returns
returns c = heap_traced
