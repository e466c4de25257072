-- The object at an address.
use Rattle.std.proofs.Common.{◌≡◌, ◌≢◌, ℕ, ◌+◌, ◌<◌, ◌≤◌, true, cond, nat_le, nat_lt, List, [], ◌∷◌, Option, Some, None, option_map, length, map, refl, sym, ap, subst, ◌∙◌, inl, inr, arith}
use Rattle.std.specs.Prelude.{◌==◌, Contains, find}
use Rattle.std.proofs.lemmas.Bool.{and_from, and_parts, cases_Bool, cases_eq, eq-eqb, le-leb, leb-true, lt-ltb, ltb-true, ne_eqb}
use Rattle.std.proofs.lemmas.List.Elements.{All-contains}
use Rattle.std.proofs.lemmas.Option.{none-some, some_pair_parts}
use Rattle.gt_types.specs.declared.program.Program.{Program}
use Rattle.gt_layout.specs.declared.planes.Layouts.{Layouts}
use Rattle.gt_space.specs.Laws.{IsApart}
use Rattle.gt_tree.specs.Scopes.{◌then◌}
use Rattle.gt_pages.specs.Ledger.{AreApart, page_address}
use Rattle.gt_pages.specs.Slots.{Slot, block_of, has_byte, owner_of}
use Rattle.gt_directory.specs.Directories.{IsBlock, known_at}
use Rattle.gt_graph.specs.Objects.{Object, object_of}
use Rattle.gt_graph.specs.Places.{Placed}
use Rattle.gt_graph.specs.Places as places
use Rattle.gt_graph.specs.Good.{Heap}
use Rattle.gt_objects.specs.declared.objects.Known.{Known}
use Rattle.gt_objects.specs.declared.objects.Objects.{Objects}
use Rattle.gt_objects.specs.Knowing.{IsKnown, IsKnownAt}
use Rattle.gt_objects.specs.Holding.{IsHeapOf}
use Rattle.gt_objects.specs.InBytes.{HasPlaces, known_in}
use Rattle.gt_objects.proofs.Items.{find_is, map_there, there_cases, there_mapped}
use Rattle.gt_objects.proofs.Naming.{mapped_some, name_is, no_object, object_found, object_in, placed_of}
use Rattle.gt_objects.proofs.Listed.{rounded_listed, size_bounds}

-- ---- the block that has a byte

byte_in : (address : ℕ) (s : Slot) → has_byte address s ≡ true → (s.address ≤ address) × (address < s.address + s.size)
byte_in address s h =
    let parts = and_parts (nat_le s.address address) (nat_lt address (s.address + s.size)) h in
    (leb-true s.address address parts.0, ltb-true address (s.address + s.size) parts.1)

pub first_byte : (s : Slot) → 8 ≤ s.size → has_byte s.address s ≡ true
first_byte s large = and_from (nat_le s.address s.address) (nat_lt s.address (s.address + s.size)) (le-leb s.address s.address (omega arith)) (lt-ltb s.address (s.address + s.size) (omega (arith, large)))

-- of blocks that are apart one has it
pub one_owner : (address : ℕ) (slots : List Slot) (t : Slot) → AreApart (map block_of slots) → Contains slots t → has_byte address t ≡ true → find (has_byte address) slots ≡ Some t
one_owner address [] t apart there has = absurd (let no : 1 ≤ 0 = omega (arith, there.1) in omega (arith, no))
one_owner address (y ∷ ys) t apart there has = elim (there_cases y ys t there) [
  | inl is ↦ ap (λ b. cond b (Some y) (find (has_byte address) ys)) (ap (has_byte address) is ∙ has) ∙ ap (λ z. Some z) is
  | inr later ↦ elim (cases_Bool (has_byte address y)) [
    | inl here ↦
        let mine = byte_in address y here in
        let its = byte_in address t has in
        elim (All-contains (λ c. IsApart y.address y.size c.address c.size) (map block_of ys) (block_of t) apart.0 (map_there block_of ys t later)) as (λ _. find (has_byte address) (y ∷ ys) ≡ Some t) [
          | inl before ↦ absurd (let no : 1 ≤ 0 = omega (arith, before, mine.1, its.0) in omega (arith, no))
          | inr following ↦ absurd (let no : 1 ≤ 0 = omega (arith, following, mine.0, its.1) in omega (arith, no))
        ]
    | inr not_here ↦ ap (λ b. cond b (Some y) (find (has_byte address) ys)) not_here ∙ one_owner address ys t apart.1 later has
  ]
]

-- ---- what pages and directory know

abbrev known_by : Objects → ℕ → Option (ℕ × ℕ) → Option Known
known_by objects address owner = owner then λ o. cond (o.0 == address) (known_at objects.directory address o.1) None

module _ (objects : Objects) (address : ℕ) where
  pub known_nowhere : owner_of objects.pages.slots address ≡ None → known_in objects address ≡ None
  known_nowhere none = ap (known_by objects address) none

  pub known_elsewhere : (start size : ℕ) → owner_of objects.pages.slots address ≡ Some (start, size) → start ≢ address → known_in objects address ≡ None
  known_elsewhere start size e differs = ap (known_by objects address) e ∙ ap (λ b. cond b (known_at objects.directory address size) None) (ne_eqb start address differs)

  pub owner_here : (start size : ℕ) → start ≡ address → owner_of objects.pages.slots address ≡ Some (start, size) → owner_of objects.pages.slots address ≡ Some (address, size)
  owner_here start size starts e = e ∙ ap (λ a. Some (a, size)) starts

  pub known_here : (size : ℕ) → owner_of objects.pages.slots address ≡ Some (address, size) → known_in objects address ≡ known_at objects.directory address size
  known_here size e = ap (known_by objects address) e ∙ ap (λ b. cond b (known_at objects.directory address size) None) (eq-eqb address address refl)

-- ---- objects and owners

abbrev ends : Slot → ℕ × ℕ
ends s = (s.address, s.size)

module _ (program : Program) (layouts : Layouts) (objects : Objects) (heap : Heap) (is : IsHeapOf program layouts objects heap) (address : ℕ) where
  blocks_are : map block_of objects.pages.slots ≡ map (λ p. p.block) heap.places.placed
  blocks_are = ap (λ l. l.blocks) is.ledger

  large : (r : Placed) → Contains heap.places.placed r → 8 ≤ r.block.size
  large r there =
      let q = object_in is.good.places r there in
      let s = is.good.places.sizes q.0 r q.1 there (sym q.2) in
      (size_bounds r.block.size (rounded_listed s.0 r.block.size s.2).0).0

  -- the object at an address owns its first byte
  object_owns : (q : Object) → Contains heap.graph.objects q → q.id ≡ address → (size : ℕ) × (owner_of objects.pages.slots address ≡ Some (address, size))
  object_owns q there named =
      let at = placed_of is.good.places q there in
      let t = there_mapped block_of objects.pages.slots at.0.block (subst (λ bs. Contains bs at.0.block) (sym blocks_are) (map_there (λ p. p.block) heap.places.placed at.0 at.1)) in
      let here : t.0.address ≡ address = ap (λ b. b.address) t.2 ∙ sym (name_is is.good.places at.0 at.1) ∙ at.2 ∙ named in
      let some : 8 ≤ t.0.size = subst (λ n. 8 ≤ n) (sym (ap (λ b. b.size) t.2)) (large at.0 at.1) in
      let has = subst (λ a. has_byte a t.0 ≡ true) here (first_byte t.0 some) in
      let apart = subst AreApart (sym blocks_are) is.good.places.sound.apart in
      (t.0.size, ap (option_map ends) (one_owner address objects.pages.slots t.0 apart t.1 has) ∙ ap (λ a. Some (a, t.0.size)) here)

  -- an owner is the block of an object
  pub record IsOwned (size : ℕ) : Type 0 where
    pub place : Placed
    pub in_places : Contains heap.places.placed place
    pub at : place.block.address ≡ address
    pub sized : place.block.size ≡ size

  owned : (start size : ℕ) → start ≡ address → owner_of objects.pages.slots address ≡ Some (start, size) → IsOwned size
  owned start size starts e =
      let found = mapped_some ends (find (has_byte address) objects.pages.slots) (start, size) e in
      let t = found.0 in
      let there = find_is (has_byte address) objects.pages.slots t found.1 in
      let r = there_mapped (λ p. p.block) heap.places.placed (block_of t) (subst (λ bs. Contains bs (block_of t)) blocks_are (map_there block_of objects.pages.slots t there.0)) in
      record {
        place = r.0;
        in_places = r.1;
        at = ap (λ b. b.address) r.2 ∙ ap (λ n. n.0) found.2 ∙ starts;
        sized = ap (λ b. b.size) r.2 ∙ ap (λ n. n.1) found.2;
      }

  -- ---- what is answered

  pub known_none : owner_of objects.pages.slots address ≡ None → IsKnownAt heap.graph.objects address None
  known_none none = no_object heap.graph.objects address (λ q there named. let owns = object_owns q there named in none-some (address, owns.0) (sym none ∙ owns.1))

  pub known_other : (start size : ℕ) → owner_of objects.pages.slots address ≡ Some (start, size) → start ≢ address → IsKnownAt heap.graph.objects address None
  known_other start size e differs = no_object heap.graph.objects address
      (λ q there named. let owns = object_owns q there named in differs (some_pair_parts start address size owns.0 (sym e ∙ owns.1)).0)

  pub owner_block : (start size : ℕ) → start ≡ address → owner_of objects.pages.slots address ≡ Some (start, size) → IsBlock (length objects.directory.shelves) address size
  owner_block start size starts e =
      let o = owned start size starts e in
      let space = All-contains (λ b. (0x10000000 ≤ b.address) × (b.address + b.size ≤ page_address heap.places.pages)) (places.ledger_of heap.places).blocks o.place.block is.good.places.sound.in_space
      (map_there (λ p. p.block) heap.places.placed o.place o.in_places) in
      let some = large o.place o.in_places in
      let at = o.at in
      let long = o.sized in
      let shelves = is.shelves in
      record { large = omega (arith, some, long); above = omega (arith, space.0, at); in_space = omega (arith, space.0, space.1, at, some, shelves) }

  known_told : (told : Option Known) → (q : Object) → object_of heap.graph.objects address ≡ Some q → (known : Known) → told ≡ Some known → IsKnown q known → IsKnownAt heap.graph.objects address told
  known_told told q found known e k = subst (IsKnownAt heap.graph.objects address) (sym e) (q, found, k)

  pub known_some : (start size : ℕ) → start ≡ address → owner_of objects.pages.slots address ≡ Some (start, size) → IsKnownAt heap.graph.objects address (known_at objects.directory address size)
  known_some start size starts e =
      let o = owned start size starts e in
      let first = object_in is.good.places o.place o.in_places in
      let q = object_found heap.graph.objects address first.0 first.1 (first.2 ∙ name_is is.good.places o.place o.in_places ∙ o.at) in
      let told = is.told q.0 o.place q.2 o.in_places (name_is is.good.places o.place o.in_places ∙ o.at ∙ sym q.3) in
      known_told (known_at objects.directory address size) q.0 q.1 told.0
      (ap (λ a. known_at objects.directory a size) (sym o.at) ∙ ap (λ n. known_at objects.directory o.place.block.address n) (sym o.sized) ∙ told.1) told.2

  -- what pages and directory know of an address is what is known of the object there
  pub known_is : IsKnownAt heap.graph.objects address (known_in objects address)
  known_is = by_owner (owner_of objects.pages.slots address) refl
    where
      by_owner : (owner : Option (ℕ × ℕ)) → owner_of objects.pages.slots address ≡ owner → IsKnownAt heap.graph.objects address (known_in objects address)
      by_owner None e = subst (IsKnownAt heap.graph.objects address) (sym (known_nowhere objects address e)) (known_none e)
      by_owner (Some (start, size)) e = elim (cases_eq start address) as (λ _. IsKnownAt heap.graph.objects address (known_in objects address)) [
        | inl same ↦ subst (IsKnownAt heap.graph.objects address) (sym (known_here objects address size (owner_here objects address start size same e))) (known_some start size same e)
        | inr differs ↦ subst (IsKnownAt heap.graph.objects address) (sym (known_elsewhere objects address start size e differs)) (known_other start size e differs)
      ]

pub has_places : (program : Program) (layouts : Layouts) (objects : Objects) (heap : Heap) → IsHeapOf program layouts objects heap → HasPlaces objects
has_places program layouts objects heap is address size e = owner_block program layouts objects heap is address address size refl e
