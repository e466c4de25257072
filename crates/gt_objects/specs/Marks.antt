-- Marks of objects, and what is left when those without one are freed.
use Rattle.std.specs.Prelude.{ℕ, Bool, IsTrue, List, filter, is_some, Contains, All}
use Rattle.gt_tree.specs.Trees.{edges, all_edges}
use Rattle.gt_pages.specs.Slots.{mark_at}
use Rattle.gt_graph.specs.Objects.{Object, Graph}
use Rattle.gt_graph.specs.Good.{Heap}
use Rattle.gt_objects.specs.declared.objects.Objects.{Objects}

-- the object at an address is marked
abbrev pub is_marked : Objects → ℕ → Bool
is_marked objects address = is_some (mark_at objects.pages.slots address)

-- the marked ones among objects
abbrev pub marked_in : Objects → List Object → List Object
marked_in objects list = filter (λ o. is_marked objects o.id) list

-- pointers of marked objects, of roots and of pairs lead to marked objects alone
pub record IsClosed (objects : Objects) (g : Graph) : Type 0 where
  pub objects_lead : (o : Object) → Contains g.objects o → IsTrue (is_marked objects o.id) → All (λ id. IsTrue (is_marked objects id)) (edges o.value)
  pub roots_lead : All (λ id. IsTrue (is_marked objects id)) (all_edges g.statics)
  pub pairs_lead : All (λ pairs. All (λ pair. IsTrue (is_marked objects pair.0) × IsTrue (is_marked objects pair.1)) pairs) g.pairs

-- the heap without the objects that are not marked
abbrev pub swept : Objects → Heap → Heap
swept objects heap = record {
  graph = record heap.graph { objects = marked_in objects heap.graph.objects };
  places = record heap.places { placed = filter (λ p. is_marked objects p.id) heap.places.placed };
}
