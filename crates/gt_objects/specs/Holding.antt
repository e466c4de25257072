-- Of which heap the bytes, the pages and the directory are.
use Rattle.std.specs.Prelude.{◌≡◌, ℕ, [], length, map, Some, Contains}
use Rattle.gt_types.specs.declared.program.Program.{Program}
use Rattle.gt_layout.specs.declared.planes.Layouts.{Layouts}
use Rattle.gt_tree.specs.Trees.{Trees}
use Rattle.gt_pages.specs.Contents as pages
use Rattle.gt_directory.specs.Directories.{known_at}
use Rattle.gt_graph.specs.Objects.{Object}
use Rattle.gt_graph.specs.Places.{Placed, ledger_of}
use Rattle.gt_graph.specs.Good.{Heap, IsGood}
use Rattle.gt_graph.specs.Stands.{Stands}
use Rattle.gt_objects.specs.declared.objects.Known.{Known}
use Rattle.gt_objects.specs.declared.objects.Objects.{Objects}
use Rattle.gt_objects.specs.Knowing.{IsKnown}

-- the directory knows of the object in a block what it is
abbrev pub IsTold : Objects → Object → Placed → Type 0
IsTold objects o p = (known : Known) × (known_at objects.directory p.block.address p.block.size ≡ Some known) × IsKnown o known

-- These are the bytes, the pages and the directory of a heap: the heap is good and the bytes stand for it; the blocks of the pages are
-- those of the objects; and each object is known in the directory, which has a shelf for each page.
pub record IsHeapOf (program : Program) (layouts : Layouts) (objects : Objects) (heap : Heap) : Type 0 where
  pub good : IsGood program layouts heap
  pub stands : Stands program layouts heap objects.space
  pub ledger : pages.ledger_of objects.pages ≡ ledger_of heap.places
  pub shelves : length objects.directory.shelves ≡ heap.places.pages
  pub told : (o : Object) (p : Placed) → Contains heap.graph.objects o → Contains heap.places.placed p → p.id ≡ o.id → IsTold objects o p

-- the heap from which a run begins: so many pages, no object, no pair, no image, and these values of the roots
abbrev pub opening : Program → ℕ → Trees → Heap
opening program pages statics = record {
  graph = record { objects = []; statics = statics; pairs = map (λ cache. []) program.caches };
  places = record { placed = []; image = record { first = 0; count = 0 }; pages = pages };
}
