-- Blocks with other marks, and those that are marked, are of the same heap.
use Rattle.std.proofs.Common.{◌≡◌, ℕ, ◌+◌, ◌<◌, ◌==◌, Bool, not, cond, List, [], ◌∷◌, Option, Some, None, is_some, is_none, length, map, count_by, refl, sym, ap, subst, ◌∙◌, inl, inr, arith}
use Rattle.std.specs.Prelude.{find, filter, All, AllPairs, Contains, option_and_then}
use Rattle.std.proofs.lemmas.Bool.{eq-eqb, ne_eqb}
use Rattle.std.proofs.lemmas.List.{length-map}
use Rattle.std.proofs.lemmas.List.Elements.{All-contains, All-cons, All-nil}
use Rattle.gt_types.specs.declared.program.Program.{Program}
use Rattle.gt_layout.specs.declared.planes.Layouts.{Layouts}
use Rattle.gt_entries.specs.declared.marks.Mark.{Mark}
use Rattle.gt_pages.specs.Ledger.{Block, Ledger, PageRange}
use Rattle.gt_pages.specs.Slots.{Slot, StartsSome, block_of, is_marked as has_mark, is_unmarked, unmarked, with_mark}
use Rattle.gt_pages.specs.Contents as pages
use Rattle.gt_space.specs.Range.{Range}
use Rattle.gt_walk.specs.declared.tables.Tables.{Tables}
use Rattle.gt_mark.specs.Marks.{Marks, mark_after, own_mark}
use Rattle.gt_mark.specs.Reached.{Walks}
use Rattle.gt_graph.specs.Objects.{Object, object_of}
use Rattle.gt_graph.specs.Places.{Placed, ledger_of}
use Rattle.gt_graph.specs.Good.{Heap}
use Rattle.gt_objects.specs.declared.objects.Objects.{Objects}
use Rattle.gt_objects.specs.Holding.{IsHeapOf}
use Rattle.gt_objects.specs.Marks.{is_marked, marked_in, swept, IsClosed}
use Rattle.gt_objects.proofs.Before.{heap_as_before}
use Rattle.gt_objects.proofs.Filtered.{count_kept, kept_same, kept_there, map_kept, pairs_mapped, rising_pairs}
use Rattle.gt_objects.proofs.Items.{map_there, none_there, pairs_head, pairs_tail, there_cases, there_mapped}
use Rattle.gt_objects.proofs.Naming.{name_is, object_is, placed_of}
use Rattle.gt_objects.proofs.Sweeping.{IsClosedBy, kept_good, kept_stands}

abbrev starts_at : ℕ → Slot → Bool
starts_at address s = s.address == address

abbrev mark_found : Option Slot → Option Mark
mark_found found = option_and_then (λ s. s.mark) found

-- ---- no marks

pub none_marked : (slots : List Slot) → All (λ s. s.mark ≡ None) (map unmarked slots)
none_marked [] = All-nil (λ s. s.mark ≡ None)
none_marked (s ∷ slots) = All-cons (λ t. t.mark ≡ None) (unmarked s) (map unmarked slots) refl (none_marked slots)

pub blocks_unmarked : (slots : List Slot) → map block_of (map unmarked slots) ≡ map block_of slots
blocks_unmarked [] = refl
blocks_unmarked (s ∷ slots) = ap (λ bs. block_of s ∷ bs) (blocks_unmarked slots)

-- blocks stay the same where each keeps its address and its size
pub blocks_remarked : (f : Slot → Slot) → ((s : Slot) → block_of (f s) ≡ block_of s) → (slots : List Slot) → map block_of (map f slots) ≡ map block_of slots
blocks_remarked f same [] = refl
blocks_remarked f same (s ∷ slots) = ap (λ b. b ∷ map block_of (map f slots)) (same s) ∙ ap (λ bs. block_of s ∷ bs) (blocks_remarked f same slots)

-- what marking leaves has the same blocks
pub blocks_after : (tables : Tables) (space : Range) (walks : Walks) (starts : List ℕ) (old new : pages.Contents) → Marks tables space walks starts old new → map block_of new.slots ≡ map block_of old.slots
blocks_after tables space walks starts old new m =
    ap (λ c. map block_of c.slots) m.marked
    ∙ blocks_remarked (λ s. with_mark (mark_after (m.reached s.address) (m.pending s.address) (own_mark walks s.address) s.mark) s) (λ s. refl) old.slots

-- ---- the heap

abbrev ledger_with : List Block → PageRange → ℕ → Ledger
ledger_with blocks image pages = record { blocks = blocks; image = image; pages = pages }

module _ (program : Program) (layouts : Layouts) (objects : Objects) (heap : Heap) (is : IsHeapOf program layouts objects heap) where
  -- the blocks are as before, with other marks
  pub heap_marked : (c : pages.Contents) → map block_of c.slots ≡ map block_of objects.pages.slots → c.image ≡ objects.pages.image → c.pages ≡ objects.pages.pages
      → IsHeapOf program layouts (record objects { pages = c }) heap
  heap_marked c same image count = heap_as_before program layouts objects (record objects { pages = c }) (record {
    bytes = refl;
    ledger = ap (λ bs. ledger_with bs c.image c.pages) same ∙ ap (λ i. ledger_with (map block_of objects.pages.slots) i c.pages) image ∙ ap (λ n. ledger_with (map block_of objects.pages.slots) objects.pages.image n) count;
    shelves = refl;
  }) heap is

  blocks_are : map block_of objects.pages.slots ≡ map (λ p. p.block) heap.places.placed
  blocks_are = ap (λ l. l.blocks) is.ledger

  -- a block starts at the address of an object
  pub starts_some : (address : ℕ) (o : Object) → object_of heap.graph.objects address ≡ Some o → StartsSome objects.pages.slots address
  starts_some address o found =
      let o_is = object_is heap.graph.objects address o found in
      let at = placed_of is.good.places o o_is.0 in
      let t = there_mapped block_of objects.pages.slots at.0.block (subst (λ bs. Contains bs at.0.block) (sym blocks_are) (map_there (λ p. p.block) heap.places.placed at.0 at.1)) in
      (t.0, t.1, ap (λ b. b.address) t.2 ∙ sym (name_is is.good.places at.0 at.1) ∙ at.2 ∙ o_is.1)

  -- ---- what is left

  found_itself : (slots : List Slot) (s : Slot) → AllPairs (λ b c. b.address < c.address) (map block_of slots) → Contains slots s → find (starts_at s.address) slots ≡ Some s
  found_itself [] s pairs there = none_there s there
  found_itself (t ∷ slots) s pairs there = elim (there_cases t slots s there) as (λ _. find (starts_at s.address) (t ∷ slots) ≡ Some s) [
    | inl same ↦ ap (λ b. cond b (Some t) (find (starts_at s.address) slots)) (eq-eqb t.address s.address (ap (λ u. u.address) same)) ∙ ap (λ u. Some u) same
    | inr later ↦
        let above = All-contains (λ c. t.address < c.address) (map block_of slots) (block_of s) (pairs_head (λ b c. b.address < c.address) (block_of t) (map block_of slots) pairs) (map_there block_of slots s later) in
        ap (λ b. cond b (Some t) (find (starts_at s.address) slots)) (ne_eqb t.address s.address (λ same. omega (arith, same, above)))
        ∙ found_itself slots s (pairs_tail (λ b c. b.address < c.address) (block_of t) (map block_of slots) pairs) later
  ]

  rise : AllPairs (λ b c. b.address < c.address) (map block_of objects.pages.slots)
  rise =
      subst (AllPairs (λ b c. b.address < c.address)) (sym blocks_are)
      (pairs_mapped (λ p. p.block) (λ b c. b.address < c.address) heap.places.placed (rising_pairs (λ p. p.block.address) heap.places.placed is.good.places.rising))

  -- the blocks that are marked are those of marked objects
  pub blocks_left : map block_of (filter has_mark objects.pages.slots) ≡ map (λ p. p.block) (filter (λ p. is_marked objects p.id) heap.places.placed)
  blocks_left =
      ap (map block_of) (kept_same has_mark (λ s. is_marked objects (block_of s).address) objects.pages.slots
      (λ s there. sym (ap (λ found. is_some (mark_found found)) (found_itself objects.pages.slots s rise there))))
      ∙ map_kept block_of (λ b. is_marked objects b.address) objects.pages.slots
      ∙ ap (filter (λ b. is_marked objects b.address)) blocks_are
      ∙ sym (map_kept (λ p. p.block) (λ b. is_marked objects b.address) heap.places.placed)
      ∙ ap (map (λ p. p.block)) (kept_same (λ p. is_marked objects p.block.address) (λ p. is_marked objects p.id) heap.places.placed
      (λ p there. ap (is_marked objects) (sym (name_is is.good.places p there))))

  pub closed_by : IsClosed objects heap.graph → IsClosedBy (is_marked objects) heap.graph
  closed_by closed = record { objects_lead = closed.objects_lead; roots_lead = closed.roots_lead; pairs_lead = closed.pairs_lead }

  pub heap_swept : IsClosed objects heap.graph → (c : pages.Contents) → c.slots ≡ filter has_mark objects.pages.slots → pages.KeepsPages objects.pages c
      → IsHeapOf program layouts (record objects { pages = c }) (swept objects heap)
  heap_swept closed c left keeps = record {
    good = kept_good program layouts (is_marked objects) heap is.good (closed_by closed);
    stands = kept_stands program layouts (is_marked objects) heap is.good (closed_by closed) objects.space is.stands;
    ledger =
        ap (λ slots. ledger_with (map block_of slots) c.image c.pages) left
        ∙ ap (λ bs. ledger_with bs c.image c.pages) blocks_left
        ∙ ap (λ i. ledger_with (ledger_of (swept objects heap).places).blocks i c.pages) (keeps.image ∙ ap (λ l. l.image) is.ledger)
        ∙ ap (λ n. ledger_with (ledger_of (swept objects heap).places).blocks heap.places.image n) (keeps.pages ∙ ap (λ l. l.pages) is.ledger);
    shelves = is.shelves;
    told = λ o p here there named. is.told o p (kept_there (λ o. is_marked objects o.id) heap.graph.objects o here).0 (kept_there (λ p. is_marked objects p.id) heap.places.placed p there).0 named;
  }

  -- how many are left
  pub marked_left : length (marked_in objects heap.graph.objects) ≡ length (filter has_mark objects.pages.slots)
  marked_left =
      let placed : List Placed = filter (λ p. is_marked objects p.id) heap.places.placed in
      let named : map (λ p. p.id) placed ≡ map (λ o. o.id) (marked_in objects heap.graph.objects) =
      map_kept (λ p. p.id) (is_marked objects) heap.places.placed ∙ ap (filter (is_marked objects)) is.good.places.names ∙ sym (map_kept (λ o. o.id) (is_marked objects) heap.graph.objects) in
      sym (length-map (marked_in objects heap.graph.objects) (λ o. o.id)) ∙ sym (ap length named) ∙ length-map placed (λ p. p.id)
      ∙ sym (length-map placed (λ p. p.block)) ∙ sym (ap length blocks_left) ∙ length-map (filter has_mark objects.pages.slots) block_of

  pub count_left : count_by is_unmarked objects.pages.slots + length (marked_in objects heap.graph.objects) ≡ length heap.graph.objects
  count_left =
      let all : length heap.graph.objects ≡ length objects.pages.slots =
      sym (length-map heap.graph.objects (λ o. o.id)) ∙ sym (ap length is.good.places.names) ∙ length-map heap.places.placed (λ p. p.id)
      ∙ sym (length-map heap.places.placed (λ p. p.block)) ∙ sym (ap length blocks_are) ∙ length-map objects.pages.slots block_of in
      let left = marked_left in
      let both = count_kept has_mark is_unmarked (λ s. none_or s.mark) objects.pages.slots in
      omega (arith, all, left, both)
    where
      none_or : (m : Option Mark) → is_none m ≡ not (is_some m)
      none_or None = refl
      none_or (Some m) = refl
