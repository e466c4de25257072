-- The heap in which one element of an object has another value.
use Rattle.std.proofs.Common.{◌≡◌, ◌≢◌, ℕ, ◌+◌, ◌*◌, ◌<◌, ◌≤◌, ◌==◌, if◌then◌else◌, List, [], ◌∷◌, length, map, refl, ap, sym, subst, ◌∙◌, inl, inr, arith}
use Rattle.std.specs.Prelude.{AllPairs, Contains}
use Rattle.std.proofs.lemmas.Bool.{cases_Bool, eqb-true, eq-eqb, false≢true}
use Rattle.std.proofs.lemmas.List.Elements.{All-contains}
use Rattle.gt_types.specs.declared.program.Program.{Program}
use Rattle.gt_types.specs.Settled.{Settled}
use Rattle.gt_layout.specs.declared.planes.Layouts.{Layouts}
use Rattle.gt_layout.specs.Planes.{IsLaidOut}
use Rattle.gt_layout.specs.Excess.{IsWithin}
use Rattle.gt_space.specs.Laws.{IsApart}
use Rattle.gt_space.specs.Range.{Range, IsInside, IsSpace, bytes_at, with_bytes}
use Rattle.gt_space.proofs.RangeLemmas.{bytes_at-with_bytes_apart}
use Rattle.gt_tree.specs.Trees.{Tree, Row, Trees, count, with_part, with_part_of}
use Rattle.gt_tree.specs.Blocks.{Kind, Nodes, Pointers, Strings, Chars, Raw, Blocks, element_type}
use Rattle.gt_tree.specs.Fits.{BlockFits, EndsAs}
use Rattle.gt_tree.specs.FixedLaws.{IsValueOf}
use Rattle.gt_tree.specs.Scopes.{outside}
use Rattle.gt_value.specs.Bytes.{itself, Takes}
use Rattle.gt_pages.specs.Ledger.{AreApart}
use Rattle.gt_graph.specs.Objects.{Object, blocks_of}
use Rattle.gt_graph.specs.Places.{Placed, ArePlacesOf, IsSizeFor, address_in}
use Rattle.gt_graph.specs.Changes.{valued, with_value}
use Rattle.gt_graph.specs.Good.{Heap, IsObject}
use Rattle.gt_graph.specs.Stands.{BlockStands, Stands}
use Rattle.gt_objects.specs.declared.objects.Objects.{Objects}
use Rattle.gt_objects.specs.Holding.{IsHeapOf, IsTold}
use Rattle.gt_objects.proofs.Items.{map_there, pairs_head, pairs_tail, there_cases, there_mapped}
use Rattle.gt_objects.proofs.Leaves.{same_each, stand_same}
use Rattle.gt_objects.proofs.Naming.{address_named, name_is}
use Rattle.gt_objects.proofs.Spaces.{record_below, record_inside, sized_after}
use Rattle.gt_objects.proofs.Standing.{block_stands, record_stands}
use Rattle.gt_elements.proofs.Found.{at, block, block_room, by_itself, each, each_fits, fits, in_space, place_room, width}
use Rattle.gt_elements.proofs.Restored.{count_with, each_after, fit_after, stand_after}
use Rattle.gt_elements.proofs.Rewritten.{graph_after, valued_names}

-- ---- lists

-- of objects with names of their own, one has a name
one_named : (objects : List Object) → AllPairs (λ o p. o.id ≢ p.id) objects → (a b : Object) → Contains objects a → Contains objects b → a.id ≡ b.id → a ≡ b
one_named [] pairs a b in_a in_b same = absurd (let no : 1 ≤ 0 = omega (arith, in_a.1) in omega (arith, no))
one_named (o ∷ objects) pairs a b in_a in_b same =
    let head = pairs_head (λ o p. o.id ≢ p.id) o objects pairs in
    elim (there_cases o objects a in_a) as (λ _. a ≡ b) [
      | inl first ↦ elim (there_cases o objects b in_b) as (λ _. a ≡ b) [
        | inl second ↦ sym first ∙ second
        | inr later ↦ absurd (All-contains (λ p. o.id ≢ p.id) objects b head later (ap (λ x. x.id) first ∙ same))
      ]
      | inr late ↦ elim (there_cases o objects b in_b) as (λ _. a ≡ b) [
        | inl second ↦ absurd (All-contains (λ p. o.id ≢ p.id) objects a head late (ap (λ x. x.id) second ∙ sym same))
        | inr later ↦ one_named objects (pairs_tail (λ o p. o.id ≢ p.id) o objects pairs) a b late later same
      ]
    ]

turned : (a m b n : ℕ) → IsApart a m b n → IsApart b n a m
turned a m b n (inl before) = inr before
turned a m b n (inr following) = inl following

-- blocks under different names share no byte
apart_two : (placed : List Placed) → AreApart (map (λ p. p.block) placed) → (p r : Placed) → Contains placed p → Contains placed r → p.id ≢ r.id → IsApart p.block.address p.block.size r.block.address r.block.size
apart_two [] apart p r in_p in_r differ = absurd (let no : 1 ≤ 0 = omega (arith, in_p.1) in omega (arith, no))
apart_two (x ∷ xs) apart p r in_p in_r differ =
    elim (there_cases x xs p in_p) as (λ _. IsApart p.block.address p.block.size r.block.address r.block.size) [
      | inl first ↦ elim (there_cases x xs r in_r) as (λ _. IsApart p.block.address p.block.size r.block.address r.block.size) [
        | inl second ↦ absurd (differ (ap (λ y. y.id) (sym first ∙ second)))
        | inr later ↦
            subst (λ y. IsApart y.block.address y.block.size r.block.address r.block.size) first
            (All-contains (λ c. IsApart x.block.address x.block.size c.address c.size) (map (λ p. p.block) xs) r.block apart.0 (map_there (λ p. p.block) xs r later))
      ]
      | inr late ↦ elim (there_cases x xs r in_r) as (λ _. IsApart p.block.address p.block.size r.block.address r.block.size) [
        | inl second ↦
            turned r.block.address r.block.size p.block.address p.block.size
            (subst (λ y. IsApart y.block.address y.block.size p.block.address p.block.size) second
            (All-contains (λ c. IsApart x.block.address x.block.size c.address c.size) (map (λ p. p.block) xs) p.block apart.0 (map_there (λ p. p.block) xs p late)))
        | inr later ↦ apart_two xs apart.1 p r late later differ
      ]
    ]

-- what is within one of two is apart from the other
within_apart : (a m b n address size : ℕ) → IsApart a m b n → a ≤ address → address + size ≤ a + m → IsApart address size b n
within_apart a m b n address size (inl before) low high = inl (omega (arith, before, high))
within_apart a m b n address size (inr following) low high = inr (omega (arith, following, low))

no_ends : (kind : Kind) (trees : Trees) → kind ≢ Chars → EndsAs kind trees
no_ends (Nodes node) trees differs = tt
no_ends (Pointers node) trees differs = tt
no_ends Strings trees differs = tt
no_ends Chars trees differs = absurd (differs refl)
no_ends Raw trees differs = tt

-- what holds of an object with either value
by_valued : (id : ℕ) (value : Tree) (P : Object → Type 0) (q : Object) → (q.id ≡ id → P (record q { value = value })) → (q.id ≢ id → P q) → P (valued id value q)
by_valued id value P q here others = elim (cases_Bool (q.id == id)) [
  | inl same ↦ subst P (sym (ap (λ b. if b then record q { value = value } else q) same)) (here (eqb-true q.id id same))
  | inr differ ↦ subst P (sym (ap (λ b. if b then record q { value = value } else q) differ)) (others (λ same. false≢true (sym differ ∙ eq-eqb q.id id same)))
]

-- ---- the whole

module _ (program : Program) (layouts : Layouts) (settled : Settled program) (laid : IsLaidOut program layouts) (within : IsWithin program layouts) (objects : Objects) (heap : Heap) (is : IsHeapOf program layouts objects heap) (space : IsSpace objects.space)
    (o : Object) (there : Contains heap.graph.objects o) (plain : o.kind ≢ Chars) (p : Placed) (lies : Contains heap.places.placed p) (named : p.id ≡ o.id) (size : ℕ) (takes : Takes program layouts o.capacity (element_type program o.kind) size)
    (place : ℕ) (low : place < o.count) (new : Range) (form : List ℕ) (sized : length form ≡ size) (put : new ≡ with_bytes objects.space (o.id + size * place) form)
    (other : Tree) (value : IsValueOf program layouts (blocks_of heap.graph.objects) heap.graph.statics o.kind o.capacity itself 0 (bytes_at new (o.id + size * place) size) other) where
  abbrev blocks : Blocks
  blocks = blocks_of heap.graph.objects

  abbrev changed : Tree
  changed = with_part o.value (place ∷ []) other

  abbrev objects_after : List Object
  objects_after = with_value heap.graph.objects o.id changed

  abbrev heap_after : Heap
  heap_after = record heap { graph = record heap.graph { objects = objects_after } }

  it_is : (q : Object) → Contains heap.graph.objects q → q.id ≡ o.id → o ≡ q
  it_is q in_q same = one_named heap.graph.objects is.good.graph.distinct o q there in_q (sym same)

  address_is : (r : Placed) → Contains heap.places.placed r → r.id ≡ o.id → r.block.address ≡ o.id
  address_is r in_r same = sym (name_is is.good.places r in_r) ∙ same

  -- ---- its own block

  module _ (r : Placed) (in_r : Contains heap.places.placed r) (same : r.id ≡ o.id) where
    abbrev old_trees : Trees
    old_trees = (block program layouts settled laid objects heap is space o there r in_r same size takes).has.trees

    moved_put : new ≡ with_bytes objects.space (r.block.address + size * place) form
    moved_put = subst (λ a. new ≡ with_bytes objects.space (a + size * place) form) (sym (address_is r in_r same)) put

    moved_value : IsValueOf program layouts blocks heap.graph.statics o.kind o.capacity itself 0 (bytes_at new (r.block.address + size * place) size) other
    moved_value = subst (λ a. IsValueOf program layouts blocks heap.graph.statics o.kind o.capacity itself 0 (bytes_at new (a + size * place) size) other) (sym (address_is r in_r same)) value

    row_after : changed ≡ Row (with_part_of old_trees place [] other)
    row_after = ap (λ v. with_part v (place ∷ []) other) (block program layouts settled laid objects heap is space o there r in_r same size takes).has.row

    block_after : BlockStands program layouts (address_in heap.places.placed) new (record o { value = changed }) r.block
    block_after =
        let was = block program layouts settled laid objects heap is space o there r in_r same size takes in
        let tree = at program layouts settled laid objects heap is space o there r in_r same size takes place low in
        let old_each = each program layouts settled laid objects heap is space o there r in_r same size takes in
        let old_fit = each_fits program layouts settled laid objects heap is space o there r in_r same size takes in
        let room = block_room program layouts settled laid objects heap is space r in_r in
        let inner = place_room program layouts settled laid objects heap is space o there r in_r same size takes place low in
        let stand = by_itself program layouts settled laid objects heap is space o there r in_r same size takes in
        let now_each = each_after program layouts settled laid blocks heap.graph.statics o.kind o.capacity size place old_trees tree.0 was.leaves takes old_each old_fit tree.1
        objects.space new r.block.address r.block.size room inner form sized moved_put other moved_value stand in
        let now_fit = fit_after program layouts settled laid blocks heap.graph.statics o.kind o.capacity size place old_trees tree.0 was.leaves takes old_each old_fit tree.1
        objects.space new r.block.address r.block.size room inner form sized moved_put other moved_value stand in
        let now_stand = stand_after program layouts settled laid blocks heap.graph.statics o.kind o.capacity size place old_trees tree.0 was.leaves takes old_each old_fit tree.1
        objects.space new r.block.address r.block.size room inner form sized moved_put other moved_value stand in
        record {
          needed = was.needed;
          leaves = _;
          has = record {
            trees = with_part_of old_trees place [] other;
            row = row_after;
            width = 8 * size;
            wide = takes;
            needs = was.has.needs ∙ ap (λ w. o.count * w) (width program layouts settled laid objects heap is space o there r in_r same size takes);
            each = now_each;
          };
          stand = stand_same itself (address_in heap.places.placed) _ (bytes_at new r.block.address r.block.size)
              (same_each itself (address_in heap.places.placed) program layouts.structures blocks o.capacity (λ id b e. sym (address_named is.good.places id b e)) now_each (outside heap.graph.statics) now_fit) now_stand;
        }

    fits_after : BlockFits program blocks heap.graph.statics o.kind o.count o.capacity changed
    fits_after =
        let was = block program layouts settled laid objects heap is space o there r in_r same size takes in
        let fit = fits program layouts settled laid objects heap is space o there r in_r same size takes in
        let tree = at program layouts settled laid objects heap is space o there r in_r same size takes place low in
        let first = fit.row in
        let second = was.has.row in
        let one : fit.trees ≡ old_trees = cc in
        record {
          trees = with_part_of old_trees place [] other;
          row = row_after;
          as_many = count_with old_trees place other ∙ sym (ap count one) ∙ fit.as_many;
          each = fit_after program layouts settled laid blocks heap.graph.statics o.kind o.capacity size place old_trees tree.0 was.leaves takes (each program layouts settled laid objects heap is space o there r in_r same size takes)
              (each_fits program layouts settled laid objects heap is space o there r in_r same size takes) tree.1 objects.space new r.block.address r.block.size (block_room program layouts settled laid objects heap is space r in_r)
              (place_room program layouts settled laid objects heap is space o there r in_r same size takes place low) form sized moved_put other moved_value (by_itself program layouts settled laid objects heap is space o there r in_r same size takes);
          ends = no_ends o.kind (with_part_of old_trees place [] other) plain;
        }

  -- ---- the other bytes

  here : p.block.address ≡ o.id
  here = address_is p lies named

  put_room : IsInside objects.space (o.id + size * place) (length form)
  put_room =
      let room = block_room program layouts settled laid objects heap is space p lies in
      let inner = place_room program layouts settled laid objects heap is space o there p lies named size takes place low in
      record { from_start = omega (arith, room.from_start, here); to_end = omega (arith, room.to_end, inner, sized, here) }

  other_bytes : (r : Placed) → Contains heap.places.placed r → r.id ≢ o.id → bytes_at new r.block.address r.block.size ≡ bytes_at objects.space r.block.address r.block.size
  other_bytes r in_r differ =
      let inner = place_room program layouts settled laid objects heap is space o there p lies named size takes place low in
      let apart = apart_two heap.places.placed is.good.places.sound.apart p r lies in_r (λ same. differ (sym same ∙ named)) in
      ap (λ s. bytes_at s r.block.address r.block.size) put
      ∙ bytes_at-with_bytes_apart objects.space (o.id + size * place) form r.block.address r.block.size put_room (block_room program layouts settled laid objects heap is space r in_r)
      (within_apart p.block.address p.block.size r.block.address r.block.size (o.id + size * place) (length form) apart (omega (arith, here)) (omega (arith, here, inner, sized)))

  record_bytes : bytes_at new new.start layouts.statics.size ≡ bytes_at objects.space objects.space.start layouts.statics.size
  record_bytes =
      let above = (in_space program layouts settled laid objects heap is space p lies).0 in
      ap (λ s. bytes_at s s.start layouts.statics.size) put
      ∙ bytes_at-with_bytes_apart objects.space (o.id + size * place) form objects.space.start layouts.statics.size put_room
      (record_inside objects.space heap.places.pages layouts.statics.size is.stands.sized within.statics)
      (inr (record_below objects.space heap.places.pages layouts.statics.size is.stands.sized within.statics (o.id + size * place) (omega (arith, above, here))))

  -- ---- the heap

  each_stands : (q : Object) (r : Placed) → Contains heap.graph.objects q → Contains heap.places.placed r → r.id ≡ q.id → BlockStands program layouts (address_in heap.places.placed) new (valued o.id changed q) r.block
  each_stands q r in_q in_r same = by_valued o.id changed (λ x. BlockStands program layouts (address_in heap.places.placed) new x r.block) q
      (λ mine. subst (λ x. BlockStands program layouts (address_in heap.places.placed) new (record x { value = changed }) r.block) (it_is q in_q mine) (block_after r in_r (same ∙ mine)))
      (λ differ.
      let fit = (All-contains (IsObject program heap.graph) heap.graph.objects q is.good.graph.objects in_q).fits in
      block_stands program layouts blocks heap.graph.statics (address_in heap.places.placed) (address_in heap.places.placed) (λ id b e. refl) objects.space new q r.block fit
      (other_bytes r in_r (λ e. differ (sym same ∙ e))) (is.stands.objects q r in_q in_r same))

  stands : Stands program layouts heap_after new
  stands = record {
    sized = sized_after objects.space new heap.places.pages layouts.statics.size (o.id + size * place) form is.stands.sized put_room put;
    statics = record_stands program layouts blocks heap.graph.statics (address_in heap.places.placed) (address_in heap.places.placed) (λ id b e. refl) objects.space new is.good.graph.statics record_bytes is.stands.statics;
    objects = λ x r in_x in_r same.
        let q = there_mapped (valued o.id changed) heap.graph.objects x in_x in
        subst (λ y. BlockStands program layouts (address_in heap.places.placed) new y r.block) q.2 (each_stands q.0 r q.1 in_r (same ∙ sym (ap (λ y. y.id) q.2) ∙ by_valued o.id changed (λ y. y.id ≡ q.0.id) q.0 (λ e. refl) (λ e. refl)));
  }

  places : ArePlacesOf program layouts objects_after heap.places
  places = record {
    names = is.good.places.names ∙ sym (valued_names o.id changed heap.graph.objects);
    by_address = is.good.places.by_address;
    rising = is.good.places.rising;
    sound = is.good.places.sound;
    sizes = λ x r in_x in_r same.
        let q = there_mapped (valued o.id changed) heap.graph.objects x in_x in
        let before = is.good.places.sizes q.0 r q.1 in_r (same ∙ sym (ap (λ y. y.id) q.2) ∙ by_valued o.id changed (λ y. y.id ≡ q.0.id) q.0 (λ e. refl) (λ e. refl)) in
        subst (λ y. IsSizeFor program layouts y r.block.size) q.2 (by_valued o.id changed (λ y. IsSizeFor program layouts y r.block.size) q.0 (λ e. before) (λ e. before));
  }

  -- the bytes, pages and directory are those of the heap with the new element
  pub replaced : IsHeapOf program layouts (record objects { space = new }) heap_after
  replaced = record {
    good = record {
      graph = graph_after program heap.graph is.good.graph o.id changed (λ q in_q same. subst (λ x. x.kind ≢ Chars) (it_is q in_q same) plain)
          (λ q in_q same. subst (λ x. BlockFits program blocks heap.graph.statics x.kind x.count x.capacity changed) (it_is q in_q same) (fits_after p lies named));
      places = places;
    };
    stands = stands;
    ledger = is.ledger;
    shelves = is.shelves;
    told = λ x r in_x in_r same.
        let q = there_mapped (valued o.id changed) heap.graph.objects x in_x in
        let before = is.told q.0 r q.1 in_r (same ∙ sym (ap (λ y. y.id) q.2) ∙ by_valued o.id changed (λ y. y.id ≡ q.0.id) q.0 (λ e. refl) (λ e. refl)) in
        subst (λ y. IsTold objects y r) q.2
        (by_valued o.id changed (λ y. IsTold objects y r) q.0 (λ e. (before.0, before.1, record { kind = before.2.kind; count = before.2.count; capacity = before.2.capacity })) (λ e. before));
  }
