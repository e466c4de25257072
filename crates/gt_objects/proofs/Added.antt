-- The heap with one more object, in a new block of bytes that stand for it.
use Rattle.std.proofs.Common.{◌≡◌, ◌≢◌, ℕ, ◌+◌, ◌<◌, ◌≤◌, ◌==◌, List, [], ◌∷◌, Some, option_map, length, map, replicate, refl, sym, ap, subst, ◌∙◌, inl, inr, arith}
use Rattle.std.specs.Prelude.{Contains, slice_get}
use Rattle.std.specs.List.{AllZip}
use Rattle.std.proofs.lemmas.Bool.{ne_eqb}
use Rattle.std.proofs.lemmas.List.{length-replicate}
use Rattle.std.proofs.lemmas.List.Elements.{All-contains, All-same, All-weaker}
use Rattle.std.proofs.lemmas.Option.{slice_get-map}
use Rattle.gt_types.specs.declared.program.Cache.{Cache}
use Rattle.gt_types.specs.declared.program.Program.{Program}
use Rattle.gt_types.specs.Settled.{Settled}
use Rattle.gt_layout.specs.declared.planes.Layouts.{Layouts}
use Rattle.gt_layout.specs.Planes.{IsLaidOut}
use Rattle.gt_layout.specs.Excess.{IsWithin}
use Rattle.gt_space.specs.Laws.{IsApart}
use Rattle.gt_space.specs.Range.{Range, IsInside, bytes_at, with_bytes}
use Rattle.gt_space.proofs.RangeLemmas.{bytes_at-with_bytes, bytes_at-with_bytes_apart}
use Rattle.gt_tree.specs.Blocks.{Nodes}
use Rattle.gt_value.specs.Names.{kind_of}
use Rattle.gt_pages.specs.Ledger.{Block, Ledger, Place, Sound, insert_by, with_block}
use Rattle.gt_pages.specs.Slots.{Slot, block_of as block_of_slot}
use Rattle.gt_pages.specs.Contents as pages
use Rattle.gt_graph.specs.Objects.{Object, Graph, blocks_of, block_of}
use Rattle.gt_graph.specs.Places.{Placed, ArePlacesOf, IsSizeFor, Needs, address_in, ledger_of}
use Rattle.gt_graph.specs.Good.{Heap, ArePairsOf, IsGraph, IsObject, IsSingle}
use Rattle.gt_graph.specs.Changes.{Inserts, Makes}
use Rattle.gt_graph.specs.Stands.{BlockStands, Stands}
use Rattle.gt_objects.specs.declared.objects.Known.{Known}
use Rattle.gt_objects.specs.declared.objects.Objects.{Objects}
use Rattle.gt_objects.specs.Knowing.{IsKnown}
use Rattle.gt_objects.specs.Holding.{IsHeapOf, IsTold}
use Rattle.gt_objects.specs.Making.{HasSize, IsMade, IsZeroObject, NeedsBytes, TakesBlock, block_at, named, placed, with_object}
use Rattle.gt_objects.proofs.Inserted.{all_inserted, find_inserted, inserted, map_inserted, new_cases, pairs_inserted}
use Rattle.gt_objects.proofs.Growing.{AreAmong, block_more, fields_more, holds_more}
use Rattle.gt_objects.proofs.Items.{all_by, map_there}
use Rattle.gt_objects.proofs.Leaves.{Agree}
use Rattle.gt_objects.proofs.Naming.{address_named, mapped_some, name_is, object_in, object_of_block, placed_of}
use Rattle.gt_objects.proofs.Listed.{rounded_listed, size_bounds}
use Rattle.gt_objects.proofs.Spaces.{block_inside, record_below, record_inside, sized_after}
use Rattle.gt_objects.proofs.Standing.{block_stands, record_stands, zero_block_stands}
use Rattle.gt_objects.proofs.Told.{other_space, placed_apart, placed_space, told_apart}
use Rattle.gt_objects.proofs.Zeros.{is_zero, zeros_are}

-- ---- parts

pub pairs_stay : (objects others : List Object) → AreAmong (blocks_of objects) (blocks_of others) → (caches : List Cache) (pairs : List (List (ℕ × ℕ))) → AllZip (ArePairsOf objects) caches pairs
    → AllZip (ArePairsOf others) caches pairs
pairs_stay objects others among [] [] are = tt
pairs_stay objects others among [] (ps ∷ pairs) are = absurd are
pairs_stay objects others among (c ∷ caches) [] are = absurd are
pairs_stay objects others among (c ∷ caches) (ps ∷ pairs) are = (
  record {
    singles = All-weaker (λ pair. IsSingle objects pair.0 c.key × IsSingle objects pair.1 c.value) (λ pair. IsSingle others pair.0 c.key × IsSingle others pair.1 c.value)
        (λ pair is. (holds_more (blocks_of objects) (blocks_of others) among pair.0 (Nodes c.key) 1 is.0, holds_more (blocks_of objects) (blocks_of others) among pair.1 (Nodes c.value) 1 is.1)) ps are.0.singles;
    distinct = are.0.distinct;
  },
  pairs_stay objects others among caches pairs are.1,
)

-- where blocks rise in the pages they do so in the places
rising_as : (slots : List Slot) (places : List Placed) → map block_of_slot slots ≡ map (λ p. p.block) places → pages.Rises slots
    → (i : ℕ) (p q : Placed) → slice_get places i ≡ Some p → slice_get places (i + 1) ≡ Some q → p.block.address < q.block.address
rising_as slots places same rises i p q e f =
    let at : (j : ℕ) (r : Placed) → slice_get places j ≡ Some r → (s : Slot) × (slice_get slots j ≡ Some s) × (block_of_slot s ≡ r.block) = λ j r g.
    mapped_some block_of_slot (slice_get slots j) r.block
    (sym (slice_get-map block_of_slot slots j) ∙ ap (λ bs. slice_get bs j) same ∙ slice_get-map (λ p. p.block) places j ∙ ap (option_map (λ p. p.block)) g) in
    let first = at i p e in
    let next = at (i + 1) q f in
    subst (λ b. b.address < q.block.address) first.2 (subst (λ b. first.0.address < b.address) next.2 (rises i first.0 next.0 first.1 next.1))

needs_of : (program : Program) (layouts : Layouts) (o : Object) (known : Known) (bytes : ℕ) → IsKnown o known → NeedsBytes program layouts known bytes → Needs program layouts o.kind o.count o.capacity bytes
needs_of program layouts o known bytes is needs =
    subst (λ k. Needs program layouts k o.count o.capacity bytes) (sym is.kind)
    (subst (λ n. Needs program layouts (kind_of known.kind) n o.capacity bytes) (sym is.count)
    (subst (λ c. Needs program layouts (kind_of known.kind) known.count c bytes) (sym is.capacity) needs))

-- ---- the new object

-- An object that may be made, under whatever name, in a block of so many bytes: it may stand in the graph, this is what is known of it,
-- and these bytes stand for it.
pub record IsNewObject (program : Program) (layouts : Layouts) (g : Graph) (known : Known) (o : Object) (size : ℕ) (contents : List ℕ) : Type 0 where
  pub object : IsObject program g o
  pub is_known : IsKnown o known
  pub long : length contents ≡ size
  pub stands : (naming : ℕ → ℕ) (range : Range) (address : ℕ) → bytes_at range address size ≡ contents
      → BlockStands program layouts naming range (named address o) (block_at address size)

-- zero bytes stand for a zero object
pub zero_is_new : (program : Program) (layouts : Layouts) → Settled program → IsLaidOut program layouts → (g : Graph) (known : Known) (o : Object) → IsZeroObject program g known o → (size : ℕ)
    → HasSize program layouts known size → IsNewObject program layouts g known o size (replicate size 0)
zero_is_new program layouts settled laid g known o zero size sized = record {
  object = zero.object;
  is_known = zero.is_known;
  long = length-replicate size 0;
  stands = λ naming range address bytes.
      let needs = needs_of program layouts o known sized.0 zero.is_known sized.1 in
      zero_block_stands program layouts settled laid (blocks_of g.objects) g.statics naming range (named address o) (block_at address size) needs.0 zero.object.fits zero.zero needs.1
      (All-same is_zero (bytes_at range address size) (replicate size 0) bytes (zeros_are size));
}

-- ---- the whole

module _ (program : Program) (layouts : Layouts) (within : IsWithin program layouts) (old new : Objects) (heap : Heap) (was : IsHeapOf program layouts old heap) (known : Known) (o : Object)
    (address size : ℕ) (contents : List ℕ) (is_new : IsNewObject program layouts heap.graph known o size contents) (sized : HasSize program layouts known size)
    (taken : TakesBlock old known address size contents new) where
  abbrev x : Object
  x = named address o

  abbrev p : Placed
  p = placed address size

  abbrev b : Block
  b = block_at address size

  abbrev after : Heap
  after = with_object heap x p

  are : ArePlacesOf program layouts heap.graph.objects heap.places
  are = was.good.places

  place : Place (ledger_of heap.places) b
  place = subst (λ l. Place l b) was.ledger taken.place

  large : 8 ≤ size
  large = (size_bounds size (rounded_listed sized.0 size sized.2).0).0

  objects_are : Inserts x heap.graph.objects after.graph.objects
  objects_are = inserted (λ o. o.id) x heap.graph.objects

  placed_are : Inserts p heap.places.placed after.places.placed
  placed_are = inserted (λ p. p.id) p heap.places.placed

  -- ---- the other blocks

  listed : (r : Placed) → Contains heap.places.placed r → 8 ≤ r.block.size
  listed r there =
      let q = object_in are r there in
      let s = are.sizes q.0 r q.1 there (sym q.2) in
      (size_bounds r.block.size (rounded_listed s.0 r.block.size s.2).0).0

  in_ledger : (r : Placed) → Contains heap.places.placed r → Contains (ledger_of heap.places).blocks r.block
  in_ledger r there = map_there (λ p. p.block) heap.places.placed r there

  apart : (r : Placed) → Contains heap.places.placed r → IsApart address size r.block.address r.block.size
  apart r there = placed_apart (ledger_of heap.places) b place large r.block (in_ledger r there) (listed r there)

  new_name : (q : Object) → Contains heap.graph.objects q → q.id ≡ address → ⊥
  new_name q there e =
      let at = placed_of are q there in
      let some = listed at.0 at.1 in
      let here : at.0.block.address ≡ address = sym (name_is are at.0 at.1) ∙ at.2 ∙ e in
      elim (apart at.0 at.1) as (λ _. ⊥) [
        | inl before ↦ absurd (let no : 1 ≤ 0 = omega (arith, before, here, large) in omega (arith, no))
        | inr following ↦ absurd (let no : 1 ≤ 0 = omega (arith, following, here, some) in omega (arith, no))
      ]

  -- what holds of each object and its block
  each_pair : (P : Object → Placed → Type 0) → P x p → ((q : Object) (r : Placed) → Contains heap.graph.objects q → Contains heap.places.placed r → r.id ≡ q.id → P q r)
      → (q : Object) (r : Placed) → Contains after.graph.objects q → Contains after.places.placed r → r.id ≡ q.id → P q r
  each_pair P here others q r in_objects in_places same =
      elim (new_cases x heap.graph.objects after.graph.objects objects_are q in_objects) as (λ _. P q r) [
        | inl is ↦ elim (new_cases p heap.places.placed after.places.placed placed_are r in_places) as (λ _. P q r) [
          | inl at ↦ subst (λ z. P z r) is (subst (λ z. P x z) at here)
          | inr before ↦ let found = object_in are r before in absurd (new_name found.0 found.1 (found.2 ∙ same ∙ sym (ap (λ z. z.id) is)))
        ]
        | inr known_before ↦ elim (new_cases p heap.places.placed after.places.placed placed_are r in_places) as (λ _. P q r) [
          | inl at ↦ absurd (new_name q known_before (sym same ∙ sym (ap (λ z. z.id) at)))
          | inr before ↦ others q r known_before before same
        ]
      ]

  -- ---- the graph

  among : AreAmong (blocks_of heap.graph.objects) (blocks_of after.graph.objects)
  among id blk e =
      let q = object_of_block heap.graph.objects id blk e in
      ap (option_map block_of)
      (find_inserted x heap.graph.objects after.graph.objects objects_are (λ o. o.id == id) (ne_eqb address id (λ same. new_name q.0 q.2 (q.3 ∙ sym same)))) ∙ e

  object_stays : (q : Object) → IsObject program heap.graph q → IsObject program after.graph q
  object_stays q is = record {
    may_hold = is.may_hold;
    single_tail = is.single_tail;
    no_room = is.no_room;
    fits = block_more (blocks_of heap.graph.objects) (blocks_of after.graph.objects) among program heap.graph.statics q.kind q.count q.capacity q.value is.fits;
  }

  new_object : IsObject program after.graph x
  new_object =
      let is = object_stays o is_new.object in
      record { may_hold = is.may_hold; single_tail = is.single_tail; no_room = is.no_room; fits = is.fits }

  graph : IsGraph program after.graph
  graph = record {
    distinct = pairs_inserted (λ q r. q.id ≢ r.id) x heap.graph.objects after.graph.objects objects_are (λ q differ same. differ (sym same))
        (λ q there same. new_name q there (sym same)) was.good.graph.distinct;
    objects = all_inserted x heap.graph.objects after.graph.objects objects_are (IsObject program after.graph) new_object
        (All-weaker (IsObject program heap.graph) (IsObject program after.graph) object_stays heap.graph.objects was.good.graph.objects);
    statics = fields_more (blocks_of heap.graph.objects) (blocks_of after.graph.objects) among was.good.graph.statics;
    pairs = pairs_stay heap.graph.objects after.graph.objects among program.caches heap.graph.pairs was.good.graph.pairs;
    few_pairs = was.good.graph.few_pairs;
  }

  -- ---- the places

  ledger : pages.ledger_of new.pages ≡ ledger_of after.places
  ledger =
      taken.ledger ∙ ap (λ l. with_block l b) was.ledger
      ∙ ap (λ bs. let l : Ledger = record { blocks = bs; image = heap.places.image; pages = heap.places.pages } in l)
      (sym (map_inserted (λ p. p.block) (λ p. p.id) (λ b. b.address) p heap.places.placed refl (λ r there. sym (name_is are r there))))

  new_size : IsSizeFor program layouts x size
  new_size = (sized.0, needs_of program layouts o known sized.0 is_new.is_known sized.1, sized.2)

  places : ArePlacesOf program layouts after.graph.objects after.places
  places = record {
    names =
        map_inserted (λ p. p.id) (λ p. p.id) (λ n. n) p heap.places.placed refl (λ r there. refl)
        ∙ ap (insert_by (λ n. n) address) are.names
        ∙ sym (map_inserted (λ o. o.id) (λ o. o.id) (λ n. n) x heap.graph.objects refl (λ q there. refl));
    by_address = all_inserted p heap.places.placed after.places.placed placed_are (λ p. p.id ≡ p.block.address) refl are.by_address;
    rising = rising_as new.pages.slots after.places.placed (ap (λ l. l.blocks) ledger) taken.laid.rising;
    sound = subst Sound ledger taken.laid.sound;
    sizes = each_pair (λ q r. IsSizeFor program layouts q r.block.size) new_size are.sizes;
  }

  -- ---- the bytes

  inside : IsInside old.space address (length contents)
  inside =
      let space = placed_space (ledger_of heap.places) b place large in
      subst (λ n. IsInside old.space address n) (sym is_new.long) (block_inside old.space heap.places.pages layouts.statics.size was.stands.sized address size space.0 space.1)

  same_addresses : Agree (address_in heap.places.placed) (address_in after.places.placed) (blocks_of heap.graph.objects)
  same_addresses id blk e = address_named are id blk e ∙ sym (address_named places id blk (among id blk e))

  other_bytes : (r : Placed) → Contains heap.places.placed r → bytes_at new.space r.block.address r.block.size ≡ bytes_at old.space r.block.address r.block.size
  other_bytes r there =
      let space = other_space (ledger_of heap.places) b place large r.block (in_ledger r there) (listed r there) in
      ap (λ s. bytes_at s r.block.address r.block.size) taken.bytes
      ∙ bytes_at-with_bytes_apart old.space address contents r.block.address r.block.size inside
      (block_inside old.space heap.places.pages layouts.statics.size was.stands.sized r.block.address r.block.size space.0 space.1)
      (subst (λ n. IsApart address n r.block.address r.block.size) (sym is_new.long) (apart r there))

  record_bytes : bytes_at new.space new.space.start layouts.statics.size ≡ bytes_at old.space old.space.start layouts.statics.size
  record_bytes =
      let space = placed_space (ledger_of heap.places) b place large in
      ap (λ s. bytes_at s s.start layouts.statics.size) taken.bytes
      ∙ bytes_at-with_bytes_apart old.space address contents old.space.start layouts.statics.size inside
      (record_inside old.space heap.places.pages layouts.statics.size was.stands.sized within.statics)
      (inr (record_below old.space heap.places.pages layouts.statics.size was.stands.sized within.statics address space.0))

  new_bytes : bytes_at new.space address size ≡ contents
  new_bytes =
      ap (λ s. bytes_at s address size) taken.bytes
      ∙ ap (λ n. bytes_at (with_bytes old.space address contents) address n) (sym is_new.long)
      ∙ bytes_at-with_bytes old.space address contents inside

  new_stands : BlockStands program layouts (address_in after.places.placed) new.space x b
  new_stands = is_new.stands (address_in after.places.placed) new.space address new_bytes

  stands : Stands program layouts after new.space
  stands = record {
    sized = sized_after old.space new.space heap.places.pages layouts.statics.size address contents was.stands.sized inside taken.bytes;
    statics = record_stands program layouts (blocks_of heap.graph.objects) heap.graph.statics (address_in heap.places.placed) (address_in after.places.placed) same_addresses old.space new.space
        was.good.graph.statics record_bytes was.stands.statics;
    objects = each_pair (λ q r. BlockStands program layouts (address_in after.places.placed) new.space q r.block) new_stands
        (λ q r here there same.
        block_stands program layouts (blocks_of heap.graph.objects) heap.graph.statics (address_in heap.places.placed) (address_in after.places.placed) same_addresses old.space new.space q r.block
        (All-contains (IsObject program heap.graph) heap.graph.objects q was.good.graph.objects here).fits (other_bytes r there) (was.stands.objects q r here there same));
  }

  -- ---- what is known

  told : (q : Object) (r : Placed) → Contains after.graph.objects q → Contains after.places.placed r → r.id ≡ q.id → IsTold new q r
  told = each_pair (IsTold new)
      (known, taken.learns.known, record { kind = is_new.is_known.kind; count = is_new.is_known.count; capacity = is_new.is_known.capacity })
      (λ q r here there same.
      let before = was.told q r here there same in
      let space = other_space (ledger_of heap.places) b place large r.block (in_ledger r there) (listed r there) in (
        before.0,
        taken.learns.others r.block.address r.block.size before.0 (listed r there) space.0
            (told_apart (ledger_of heap.places) b place large r.block (in_ledger r there) (listed r there)) before.1,
        before.2,
      ))

  makes : Makes program layouts heap x p after
  makes = record {
    new_name = all_by (λ q. q.id ≢ address) heap.graph.objects new_name;
    named = refl;
    place = place;
    objects = objects_are;
    places = placed_are;
    laid = places;
    graph = refl;
    rest = refl;
  }

  pub is_made : IsMade program layouts heap o address size new
  is_made = record {
    makes = makes;
    holds = record {
      good = record { graph = graph; places = places };
      stands = stands;
      ledger = ledger;
      shelves = taken.shelves ∙ was.shelves;
      told = told;
    };
  }
