-- What a collection leaves of a heap.
use Rattle.std.specs.Prelude.{◌≡◌, ◌+◌, ℕ, length}
use Rattle.gt_types.specs.declared.program.Program.{Program}
use Rattle.gt_graph.specs.Objects.{pairs_in}
use Rattle.gt_graph.specs.Good.{Heap}
use Rattle.gt_graph.specs.Kept.{After, without_deletable}
use Rattle.gt_graph.specs.Rounds.{AreRounds}

-- the heap in which the pointers of deletable roots are null
abbrev pub cleared_heap : Program → Heap → Heap
cleared_heap program heap = record heap { graph = record heap.graph { statics = without_deletable program.roots heap.graph.statics } }

-- so many objects are kept, so many are freed, and so many pairs are dropped
pub record AreCounted (old new : Heap) (kept freed dropped : ℕ) : Type 0 where
  pub kept_count : kept ≡ length new.graph.objects
  pub freed_count : kept + freed ≡ length old.graph.objects
  pub dropped_count : pairs_in new.graph.pairs + dropped ≡ pairs_in old.graph.pairs

-- the collection keeps so many objects, frees so many and drops so many pairs, and its marking takes so many rounds
pub record IsCollected (program : Program) (old new : Heap) (kept freed dropped times : ℕ) : Type 0 where
  pub after : After program old new
  pub counts : AreCounted old new kept freed dropped
  pub rounds : AreRounds program old.graph new.graph after.values times
