-- A heap with other pairs.
use Rattle.std.proofs.Common.{ℕ, ◌≤◌, List}
use Rattle.std.specs.List.{AllZip}
use Rattle.std.proofs.lemmas.List.Elements.{All-weaker}
use Rattle.gt_types.specs.declared.program.Program.{Program}
use Rattle.gt_layout.specs.declared.planes.Layouts.{Layouts}
use Rattle.gt_graph.specs.Objects.{Object, Graph, pairs_in}
use Rattle.gt_graph.specs.Good.{Heap, MAX_PAIRS, IsObject, ArePairsOf}
use Rattle.gt_objects.specs.declared.objects.Objects.{Objects}
use Rattle.gt_objects.specs.Holding.{IsHeapOf}
use Rattle.gt_caches.specs.Pairs.{with_pairs}

-- an object says nothing of pairs
other-pairs : (program : Program) (g : Graph) (pairs : List (List (ℕ × ℕ))) (o : Object) → IsObject program g o → IsObject program (record g { pairs = pairs }) o
other-pairs program g pairs o h = record { may_hold = h.may_hold; single_tail = h.single_tail; no_room = h.no_room; fits = h.fits }

pub heap-with-pairs : (program : Program) (layouts : Layouts) (objects : Objects) (heap : Heap) (pairs : List (List (ℕ × ℕ))) → IsHeapOf program layouts objects heap
    → AllZip (ArePairsOf heap.graph.objects) program.caches pairs → pairs_in pairs ≤ MAX_PAIRS → IsHeapOf program layouts objects (with_pairs heap pairs)
heap-with-pairs program layouts objects heap pairs h zip few =
    let graph = h.good.graph in
    record {
      good = record {
        graph = record {
          distinct = graph.distinct;
          objects = All-weaker (IsObject program heap.graph) (IsObject program (record heap.graph { pairs = pairs })) (other-pairs program heap.graph pairs) heap.graph.objects graph.objects;
          statics = graph.statics;
          pairs = zip;
          few_pairs = few;
        };
        places = h.good.places;
      };
      stands = record { sized = h.stands.sized; statics = h.stands.statics; objects = h.stands.objects };
      ledger = h.ledger;
      shelves = h.shelves;
      told = h.told;
    }
