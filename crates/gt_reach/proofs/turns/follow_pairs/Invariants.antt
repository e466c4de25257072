use Rattle.std.proofs.Common.{◌≡◌, ℕ, List, [], Some, take}
use Rattle.std.specs.Prelude.{slice_get}
use Rattle.gt_graph.specs.Good.{Heap}
use Rattle.gt_objects.specs.Holding.{IsHeapOf}
use Rattle.gt_caches.specs.Pairs.{Entry, pairs_of}
use Rattle.gt_reach.specs.Following.{HadTurns, IsTraced}
use Rattle.gt_reach.proofs.turns.follow_pairs.Given as goal

-- so many pairs of the cache had their turns
abbrev pub invariant-loop-i : goal.invariant-loop-i
invariant-loop-i l = record {
  turns : (heap : Heap) (values : List ℕ) (entries : List Entry) → IsHeapOf l.schema.program l.schema.layouts l.initial.objects heap → heap.graph.pairs ≡ pairs_of l.initial.caches
      → IsTraced l.schema.program l.schema.tables heap values l.initial.objects l.initial.rounds → slice_get l.caches l.cache ≡ Some entries
      → HadTurns l.schema.program l.schema.tables heap values (take l.i entries) l.objects l.rounds;
  before : take l.cache l.caches ≡ take l.cache l.initial.caches;
  pairs : pairs_of l.caches ≡ pairs_of l.initial.caches;
  heap : (heap : Heap) → IsHeapOf l.schema.program l.schema.layouts l.initial.objects heap → IsHeapOf l.schema.program l.schema.layouts l.objects heap;
  bytes : l.objects.space ≡ l.initial.objects.space;
}
