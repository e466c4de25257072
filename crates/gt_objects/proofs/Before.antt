-- What is as before is of the same heap.
use Rattle.std.proofs.Common.{◌≡◌, ℕ, ap, sym, subst, ◌∙◌, length}
use Rattle.std.specs.Prelude.{option_and_then, slice_get}
use Rattle.gt_types.specs.declared.program.Program.{Program}
use Rattle.gt_layout.specs.declared.planes.Layouts.{Layouts}
use Rattle.gt_directory.specs.Directories.{on_shelf, page_of}
use Rattle.gt_pages.specs.Ledger.{Room}
use Rattle.gt_pages.specs.Contents as pages
use Rattle.gt_graph.specs.Places.{ledger_of}
use Rattle.gt_graph.specs.Good.{Heap}
use Rattle.gt_graph.specs.Stands.{Stands}
use Rattle.gt_objects.specs.declared.objects.Objects.{Objects}
use Rattle.gt_objects.specs.Holding.{IsHeapOf}
use Rattle.gt_objects.specs.Making.{IsAsBefore}

pub heap_as_before : (program : Program) (layouts : Layouts) (old new : Objects) → IsAsBefore old new → (heap : Heap) → IsHeapOf program layouts old heap → IsHeapOf program layouts new heap
heap_as_before program layouts old new same heap is = record {
  good = is.good;
  stands = subst (Stands program layouts heap) (sym same.bytes) is.stands;
  ledger = same.ledger ∙ is.ledger;
  shelves = ap length same.shelves ∙ is.shelves;
  told = λ o p here there named.
      let told = is.told o p here there named in
      (told.0, ap (λ shelves. option_and_then (on_shelf p.block.address p.block.size) (slice_get shelves (page_of p.block.address))) same.shelves ∙ told.1, told.2);
}

-- where the pages have no room the places have none
pub no_room : (program : Program) (layouts : Layouts) (objects : Objects) (heap : Heap) → IsHeapOf program layouts objects heap → (size need : ℕ) → size ≡ need
    → (Room (pages.ledger_of objects.pages) size → ⊥) → Room (ledger_of heap.places) need → ⊥
no_room program layouts objects heap is size need same none room =
    none (subst (λ n. Room (pages.ledger_of objects.pages) n) (sym same) (subst (λ l. Room l need) (sym is.ledger) room))
