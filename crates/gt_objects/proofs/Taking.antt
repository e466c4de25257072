-- A new block in the pages, in the space and in the directory.
use Rattle.std.proofs.Common.{◌≡◌, ℕ, ◌+◌, ◌*◌, ◌≤◌, List, length, map, sym, ap, ◌∙◌, arith}
use Rattle.std.specs.Prelude.{Contains, option_and_then, slice_get}
use Rattle.gt_types.specs.declared.program.Program.{Program}
use Rattle.gt_layout.specs.declared.planes.Layouts.{Layouts}
use Rattle.gt_space.specs.Range.{Range, IsInside}
use Rattle.gt_pages.specs.Ledger.{Block, Ledger, PageRange, Place, sizes, with_block}
use Rattle.gt_pages.specs.Slots.{Slot, block_of, slot_at, with_slot}
use Rattle.gt_pages.specs.Contents.{Contents, KeepsPages, ledger_of}
use Rattle.gt_pages.proofs.PlaceLemmas.{blocks_added}
use Rattle.gt_directory.specs.Directories as directory
use Rattle.gt_directory.specs.Directories.{IsBlock, Learns, on_shelf, page_of}
use Rattle.gt_objects.specs.declared.objects.Known.{Known}
use Rattle.gt_graph.specs.Good.{Heap}
use Rattle.gt_objects.specs.declared.objects.Objects.{Objects}
use Rattle.gt_objects.specs.Holding.{IsHeapOf}
use Rattle.gt_objects.proofs.Listed.{size_bounds}
use Rattle.gt_objects.proofs.Told.{placed_space}

abbrev ledger_with : List Block → PageRange → ℕ → Ledger
ledger_with blocks image pages = record { blocks = blocks; image = image; pages = pages }

-- one more block in the pages is one more in the ledger
pub ledger_added : (old new : Contents) (s : Slot) → KeepsPages old new → new.slots ≡ with_slot old.slots s → ledger_of new ≡ with_block (ledger_of old) (block_of s)
ledger_added old new s keeps added =
    ap (λ xs. ledger_with (map block_of xs) new.image new.pages) added
    ∙ ap (λ bs. ledger_with bs new.image new.pages) (blocks_added s old.slots)
    ∙ ap (λ i. ledger_with (with_block (ledger_of old) (block_of s)).blocks i new.pages) keeps.image
    ∙ ap (λ n. ledger_with (with_block (ledger_of old) (block_of s)).blocks old.image n) keeps.pages

pub listed_large : (size : ℕ) → Contains sizes size → 8 ≤ size
listed_large size there = (size_bounds size there).0

-- the new block is a block of the directory
pub new_block : (old : Contents) (address size shelves : ℕ) → Place (ledger_of old) (block_of (slot_at address size)) → Contains sizes size → shelves ≡ old.pages → IsBlock shelves address size
new_block old address size shelves place there same =
    let large = listed_large size there in
    let space = placed_space (ledger_of old) (block_of (slot_at address size)) place large in
    record { large = large; above = space.0; in_space = omega (arith, space.0, space.1, large, same) }

-- and lies in the space
pub new_inside : (old : Contents) (range : Range) (address size : ℕ) → Place (ledger_of old) (block_of (slot_at address size)) → Contains sizes size → range.start ≤ 0x10000000
    → 0x10000000 + 4096 * old.pages ≤ range.start + length range.bytes → IsInside range address size
new_inside old range address size place there start ends =
    let large = listed_large size there in
    let space = placed_space (ledger_of old) (block_of (slot_at address size)) place large in
    record { from_start = omega (arith, space.0, start); to_end = omega (arith, space.1, ends) }

-- what is known does not rest on spare shelves
pub learns_from : (old mid new : directory.Contents Known) (address size : ℕ) (known : Known) → mid.shelves ≡ old.shelves → Learns mid address size known new → Learns old address size known new
learns_from old mid new address size known same learns = record {
  known = learns.known;
  others = λ other other_size there large above told e.
      learns.others other other_size there large above told (ap (λ shelves. option_and_then (on_shelf other other_size) (slice_get shelves (page_of other))) same ∙ e);
}

-- ---- of a heap

module _ (program : Program) (layouts : Layouts) (objects : Objects) (heap : Heap) (is : IsHeapOf program layouts objects heap) where
  pub shelves_are : length objects.directory.shelves ≡ objects.pages.pages
  shelves_are = is.shelves ∙ sym (ap (λ l. l.pages) is.ledger)

  pub starts_below : objects.space.start ≤ 0x10000000
  starts_below = let start = is.stands.sized.start in omega (arith, start)

  pub ends_above : 0x10000000 + 4096 * objects.pages.pages ≤ objects.space.start + length objects.space.bytes
  ends_above =
      let start = is.stands.sized.start in
      let len = is.stands.sized.len in
      let pages : objects.pages.pages ≡ heap.places.pages = ap (λ l. l.pages) is.ledger in
      omega (arith, start, len, pages)
