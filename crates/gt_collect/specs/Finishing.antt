-- How a collection ends once its marks stand.
use Rattle.std.specs.Prelude.{ℕ, List, [], IsTrue, Contains, All}
use Rattle.gt_types.specs.declared.program.Program.{Program}
use Rattle.gt_tree.specs.Trees.{edges}
use Rattle.gt_graph.specs.Objects.{Object}
use Rattle.gt_graph.specs.Good.{Heap}
use Rattle.gt_graph.specs.Kept.{CachesStay, ReachedWith}
use Rattle.gt_objects.specs.declared.objects.Objects.{Objects}
use Rattle.gt_objects.specs.Marks.{is_marked, swept}
use Rattle.gt_caches.specs.Pairs.{Entries, staying, with_pairs}
use Rattle.gt_collect.specs.Collecting.{cleared_heap}

-- The marks with which a collection may end: the pairs that are held as staying are those of the collection, each object that it keeps is
-- marked, and what a marked object points to is marked too.
pub record CanFinish (program : Program) (objects : Objects) (caches : Entries) (heap : Heap) : Type 0 where
  pub values : List ℕ
  pub stay : CachesStay program heap.graph [] heap.graph.pairs (staying caches) values
  pub kept : (o : Object) → Contains heap.graph.objects o → ReachedWith program heap.graph values o.id → IsTrue (is_marked objects o.id)
  pub lead : (o : Object) → Contains heap.graph.objects o → IsTrue (is_marked objects o.id) → All (λ id. IsTrue (is_marked objects id)) (edges o.value)

-- the heap that is left: the marked objects with their values, places and order; the pairs that stay; and the roots, of which deletable ones
-- are null
abbrev pub finished_heap : Program → Objects → Entries → Heap → Heap
finished_heap program objects caches heap = swept objects (with_pairs (cleared_heap program heap) (staying caches))
