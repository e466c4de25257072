-- The marks that the marking of a collection leaves.
use Rattle.std.specs.Prelude.{◌↔◌, ℕ, List, [], IfSome, IsTrue, Contains}
use Rattle.gt_types.specs.declared.program.Program.{Program}
use Rattle.gt_pages.specs.Slots.{Slot}
use Rattle.gt_graph.specs.Objects.{Object}
use Rattle.gt_graph.specs.Good.{Heap}
use Rattle.gt_graph.specs.Kept.{ReachedWith, CachesStay}
use Rattle.gt_graph.specs.Rounds.{AreRounds}
use Rattle.gt_objects.specs.declared.objects.Objects.{Objects}
use Rattle.gt_objects.specs.Marks.{is_marked, marked_in}
use Rattle.gt_mark.specs.Reached.{IsOwn}
use Rattle.gt_tracing.specs.Walked.{walks_in}
use Rattle.gt_caches.specs.Pairs.{Entries, staying}

-- Exactly the objects are marked that are reached from these values of pairs or from the roots that are not deletable; each mark has its
-- block's own walk and count, so that marking can go on from it; and these are rounds of a collection that keeps them.
pub record AreMarked (program : Program) (objects : Objects) (heap : Heap) (values : List ℕ) (times : ℕ) : Type 0 where
  pub exact : (o : Object) → Contains heap.graph.objects o → IsTrue (is_marked objects o.id) ↔ ReachedWith program heap.graph values o.id
  pub own : (s : Slot) → Contains objects.pages.slots s → IfSome s.mark (IsOwn (walks_in program heap.graph.objects) s.address)
  pub rounds : AreRounds program heap.graph (record heap.graph { objects = marked_in objects heap.graph.objects }) values times

-- The pairs that stay are held as such, and exactly the objects are marked that a collection keeps.
pub record IsKept (program : Program) (objects : Objects) (caches : Entries) (heap : Heap) (times : ℕ) : Type 0 where
  pub values : List ℕ
  pub stay : CachesStay program heap.graph [] heap.graph.pairs (staying caches) values
  pub marked : AreMarked program objects heap values times
