use Rattle.std.proofs.Common.{◌≡◌, ℕ, List, [], take}
use Rattle.gt_graph.specs.Good.{Heap}
use Rattle.gt_objects.specs.Holding.{IsHeapOf}
use Rattle.gt_caches.specs.Pairs.{pairs_of}
use Rattle.gt_reach.specs.Following.{CachesHadTurns, IsTraced}
use Rattle.gt_reach.proofs.turns.follow_caches.Given as goal

-- the pairs of so many caches had their turns
abbrev pub invariant-loop-cache : goal.invariant-loop-cache
invariant-loop-cache l = record {
  turns : (heap : Heap) (values : List ℕ) → IsHeapOf l.schema.program l.schema.layouts l.initial.objects heap → heap.graph.pairs ≡ pairs_of l.initial.caches
      → IsTraced l.schema.program l.schema.tables heap values l.initial.objects l.initial.rounds → CachesHadTurns l.schema.program l.schema.tables heap values (take l.cache l.caches) l.objects l.rounds;
  pairs : pairs_of l.caches ≡ pairs_of l.initial.caches;
  heap : (heap : Heap) → IsHeapOf l.schema.program l.schema.layouts l.initial.objects heap → IsHeapOf l.schema.program l.schema.layouts l.objects heap;
  bytes : l.objects.space ≡ l.initial.objects.space;
}
