-- A block can be made where there is a place for it.
use Rattle.std.proofs.Common.{◌≡◌, ◌≢◌, ℕ, ◌*◌, ◌≤◌, List, [], ◌∷◌, map, refl, ap, sym, subst, ◌∙◌, ◌⊎◌, inl, inr, arith, Option, Some, None}
use Rattle.std.specs.Prelude.{Contains}
use Rattle.gt_types.specs.declared.program.Program.{Program}
use Rattle.gt_types.specs.Settled.{Settled}
use Rattle.gt_layout.specs.declared.planes.Layouts.{Layouts}
use Rattle.gt_layout.specs.Planes.{IsLaidOut}
use Rattle.gt_space.specs.Laws.{IsApart}
use Rattle.gt_tree.specs.Trees.{Tree}
use Rattle.gt_tree.specs.Blocks.{Kind, Nodes, Pointers, Strings, Chars, Raw}
use Rattle.gt_tree.specs.FixedLaws.{MayHold}
use Rattle.gt_tree.proofs.Sizes.{sizes-one}
use Rattle.gt_pages.specs.Ledger.{Block, Ledger, Place, Room, Sound, insert_by, rounded, with_block}
use Rattle.gt_graph.specs.Objects.{Object}
use Rattle.gt_graph.specs.Places.{Placed, ArePlacesOf, IsSizeFor, Needs, ledger_of}
use Rattle.gt_graph.specs.Good.{Heap}
use Rattle.gt_graph.specs.Changes.{Inserts, Makes}
use Rattle.gt_objects.specs.Making.{block_at, named, placed, with_object}
use Rattle.gt_objects.proofs.Inserted.{all_inserted, inserted, map_inserted, new_cases}
use Rattle.gt_objects.proofs.Items.{all_by, map_there, there_mapped}
use Rattle.gt_objects.proofs.Listed.{none_far, rounded_listed, size_bounds}
use Rattle.gt_objects.proofs.Naming.{name_is, object_in, placed_of}
use Rattle.gt_objects.proofs.Told.{placed_apart}
use Rattle.gt_objects.proofs.Widths.{chars_take, pointers_take, raw_takes, strings_take}
use Rattle.gt_next.specs.States.{State, IsGoodState, IsFullOfVariables, with_variable}
use Rattle.gt_next.specs.Making.{Wanted, Contents, IsTooLarge, Binds}
use Rattle.gt_total.proofs.Places.{SomePlace, some_place}
use Rattle.gt_total.proofs.Rising.{Climbs, climbs_by_index, climbs_from_index, climbs_inserted}
use Rattle.gt_total.proofs.Splits.{Never, split}

-- ---- the bytes that are needed

module _ (program : Program) (layouts : Layouts) (settled : Settled program) (laid : IsLaidOut program layouts) where
  -- each kind needs some bytes
  pub needs : (kind : Kind) (count capacity : ℕ) → MayHold program kind → (bytes : ℕ) × Needs program layouts kind count capacity bytes
  needs (Nodes node) count capacity may = let one = sizes-one program layouts settled laid capacity node may.0 may.1 in (count * one.0, (one.0, (one.0, one.1, refl), refl))
  needs (Pointers node) count capacity may = (count * 8, (8, pointers_take program layouts capacity node, refl))
  needs Strings count capacity may = (count * 8, (8, strings_take program layouts capacity, refl))
  needs Chars count capacity may = (count * 1, (1, chars_take program layouts capacity, refl))
  needs Raw count capacity may = (count * 1, (1, raw_takes program layouts capacity, refl))

-- ---- the heap with one more object

module _ (program : Program) (layouts : Layouts) (heap : Heap) (are : ArePlacesOf program layouts heap.graph.objects heap.places) where
  listed : (r : Placed) → Contains heap.places.placed r → 8 ≤ r.block.size
  listed r there =
      let q = object_in are r there in
      let s = are.sizes q.0 r q.1 there (sym q.2) in
      (size_bounds r.block.size (rounded_listed s.0 r.block.size s.2).0).0

  pub large_blocks : (b : Block) → Contains (ledger_of heap.places).blocks b → 8 ≤ b.size
  large_blocks b there = let r = there_mapped (λ p. p.block) heap.places.placed b there in subst (λ b. 8 ≤ b.size) r.2 (listed r.0 r.1)

  module _ (o : Object) (address size : ℕ) (large : 8 ≤ size) (place : Place (ledger_of heap.places) (block_at address size)) (sized : IsSizeFor program layouts o size) where
    abbrev x : Object
    x = named address o

    abbrev p : Placed
    p = placed address size

    abbrev after : Heap
    after = with_object heap x p

    objects_are : Inserts x heap.graph.objects after.graph.objects
    objects_are = inserted (λ o. o.id) x heap.graph.objects

    placed_are : Inserts p heap.places.placed after.places.placed
    placed_are = inserted (λ p. p.id) p heap.places.placed

    apart : (r : Placed) → Contains heap.places.placed r → IsApart address size r.block.address r.block.size
    apart r there = placed_apart (ledger_of heap.places) (block_at address size) place large r.block (map_there (λ p. p.block) heap.places.placed r there) (listed r there)

    new_place : (r : Placed) → Contains heap.places.placed r → r.block.address ≡ address → ⊥
    new_place r there here = elim (apart r there) as (λ _. ⊥) [
      | inl before ↦ absurd (let no : 1 ≤ 0 = omega (arith, before, here, large) in omega (arith, no))
      | inr following ↦ absurd (let some = listed r there in let no : 1 ≤ 0 = omega (arith, following, here, some) in omega (arith, no))
    ]

    new_name : (q : Object) → Contains heap.graph.objects q → q.id ≡ address → ⊥
    new_name q there e = let at = placed_of are q there in new_place at.0 at.1 (sym (name_is are at.0 at.1) ∙ at.2 ∙ e)

    -- what holds of each object and its block
    each_pair : (P : Object → Placed → Type 0) → P x p → ((q : Object) (r : Placed) → Contains heap.graph.objects q → Contains heap.places.placed r → r.id ≡ q.id → P q r)
        → (q : Object) (r : Placed) → Contains after.graph.objects q → Contains after.places.placed r → r.id ≡ q.id → P q r
    each_pair P here others q r in_objects in_places same =
        elim (new_cases x heap.graph.objects after.graph.objects objects_are q in_objects) as (λ _. P q r) [
          | inl is ↦ elim (new_cases p heap.places.placed after.places.placed placed_are r in_places) as (λ _. P q r) [
            | inl at ↦ subst (λ z. P z r) is (subst (λ z. P x z) at here)
            | inr before ↦ let found = object_in are r before in absurd (new_name found.0 found.1 (found.2 ∙ same ∙ sym (ap (λ z. z.id) is)))
          ]
          | inr known_before ↦ elim (new_cases p heap.places.placed after.places.placed placed_are r in_places) as (λ _. P q r) [
            | inl at ↦ absurd (new_name q known_before (sym same ∙ sym (ap (λ z. z.id) at)))
            | inr before ↦ others q r known_before before same
          ]
        ]

    ledger : with_block (ledger_of heap.places) (block_at address size) ≡ ledger_of after.places
    ledger =
        ap (λ bs. let l : Ledger = record { blocks = bs; image = heap.places.image; pages = heap.places.pages } in l)
        (sym (map_inserted (λ p. p.block) (λ p. p.id) (λ b. b.address) p heap.places.placed refl (λ r there. sym (name_is are r there))))

    climbs : Climbs (λ p. p.block.address) after.places.placed
    climbs = subst (Climbs (λ p. p.block.address)) same
        (climbs_inserted (λ p. p.block.address) p heap.places.placed (λ r there. new_place r there) (climbs_from_index (λ p. p.block.address) heap.places.placed are.rising))
      where
        same : insert_by (λ p. p.block.address) p heap.places.placed ≡ after.places.placed
        same = sym (insert_same heap.places.placed (λ r there. name_is are r there))
          where
            insert_same : (rs : List Placed) → ((r : Placed) → Contains rs r → r.id ≡ r.block.address) → insert_by (λ p. p.id) p rs ≡ insert_by (λ p. p.block.address) p rs
            insert_same rs names = ap_id (map_inserted (λ r. r) (λ p. p.id) (λ p. p.block.address) p rs refl (λ r there. sym (names r there)))
              where
                ap_id : map (λ r. r) (insert_by (λ p. p.id) p rs) ≡ insert_by (λ p. p.block.address) p (map (λ r. r) rs) → insert_by (λ p. p.id) p rs ≡ insert_by (λ p. p.block.address) p rs
                ap_id e = sym (map_same (insert_by (λ p. p.id) p rs)) ∙ e ∙ ap (insert_by (λ p. p.block.address) p) (map_same rs)
                  where
                    map_same : (rs : List Placed) → map (λ r. r) rs ≡ rs
                    map_same [] = refl
                    map_same (r ∷ rs) = ap (λ ys. r ∷ ys) (map_same rs)

    places : ArePlacesOf program layouts after.graph.objects after.places
    places = record {
      names =
          map_inserted (λ p. p.id) (λ p. p.id) (λ n. n) p heap.places.placed refl (λ r there. refl)
          ∙ ap (insert_by (λ n. n) address) are.names
          ∙ sym (map_inserted (λ o. o.id) (λ o. o.id) (λ n. n) x heap.graph.objects refl (λ q there. refl));
      by_address = all_inserted p heap.places.placed after.places.placed placed_are (λ p. p.id ≡ p.block.address) refl are.by_address;
      rising = climbs_by_index (λ p. p.block.address) after.places.placed climbs;
      sound = subst Sound ledger place.sound;
      sizes = each_pair (λ q r. IsSizeFor program layouts q r.block.size) sized are.sizes;
    }

    pub makes : Makes program layouts heap x p after
    makes = record {
      new_name = all_by (λ q. q.id ≢ address) heap.graph.objects new_name;
      named = refl;
      place = place;
      objects = objects_are;
      places = placed_are;
      laid = places;
      graph = refl;
      rest = refl;
    }

-- ---- the last refusals, and the block

module _ (program : Program) (layouts : Layouts) (settled : Settled program) (laid : IsLaidOut program layouts) (s : State) (good : IsGoodState program layouts s) (var : List ℕ) (w : Wanted) (contents : Contents)
    (may : MayHold program w.kind) (value : Tree) (holds : contents value) where
  -- the object, under whatever name
  abbrev o : Object
  o = record { id = 0; kind = w.kind; count = w.count; capacity = w.capacity; value = value }

  rounds_or_large : (bytes : ℕ) → Needs program layouts w.kind w.count w.capacity bytes → (r : Option ℕ) → rounded bytes ≡ r → ((size : ℕ) × (rounded bytes ≡ Some size)) ⊎ IsTooLarge program layouts w
  rounds_or_large bytes need None e = inr (bytes, need, none_far bytes e)
  rounds_or_large bytes need (Some size) e = inl (size, e)

  at_size : (¬ IsFullOfVariables s.variables var) → (bytes : ℕ) → Needs program layouts w.kind w.count w.capacity bytes → (size : ℕ) → rounded bytes ≡ Some size → ¬ Never (Binds program layouts s var w contents)
  at_size free bytes need size round = split {P = Room (ledger_of s.heap.places) size} with_room (λ none never. never _ _ (Binds.full free need round none))
    where
      some : 8 ≤ size
      some = (size_bounds size (rounded_listed bytes size round).0).0

      at_place : SomePlace (ledger_of s.heap.places) size → ¬ Never (Binds program layouts s var w contents)
      at_place (address, place) never =
          let made = makes program layouts s.heap good.heap.places o address size some place (bytes, need, round) in
          let t : State = record s { heap = with_object s.heap (named address o) (placed address size); variables = with_variable s.variables var address } in
          never _ t (Binds.made free refl refl refl holds made refl)

      with_room : Room (ledger_of s.heap.places) size → ¬ Never (Binds program layouts s var w contents)
      with_room room = some_place (ledger_of s.heap.places) good.heap.places.sound (large_blocks program layouts s.heap good.heap.places) size some room at_place

  pub some_binds : (¬ IsTooLarge program layouts w) → ¬ Never (Binds program layouts s var w contents)
  some_binds small = split {P = IsFullOfVariables s.variables var}
      (λ full never. never _ _ (Binds.too_many full))
      (λ free. let need = needs program layouts settled laid w.kind w.count w.capacity may in elim (rounds_or_large need.0 need.1 (rounded need.0) refl) as (λ _. ¬ Never (Binds program layouts s var w contents)) [
        | inl round ↦ at_size free need.0 need.1 round.0 round.1
        | inr large ↦ absurd (small large)
      ])
