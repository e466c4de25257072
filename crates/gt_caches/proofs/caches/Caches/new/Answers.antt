use Rattle.std.proofs.Common.{ap, sym, ◌∙◌}
use Rattle.gt_graph.specs.Objects.{pairs_in}
use Rattle.gt_caches.specs.Pairs.{pairs_of}
use Rattle.gt_caches.proofs.Totals.{pairs_in-none}
use Rattle.gt_caches.proofs.caches.Caches.new.Goals as goal

pub invariant_of-result : goal.invariant_of-result
invariant_of-result c = sym (ap (λ xs. pairs_in (pairs_of xs)) c.loop.invariant ∙ pairs_in-none c.loop.counter)
