-- The heap without the objects that are not kept, where those that are kept, the roots and the pairs name no others, is a heap.
use Rattle.std.proofs.Common.{◌≡◌, ◌≢◌, ℕ, ◌+◌, ◌<◌, ◌≤◌, ◌==◌, Bool, List, [], ◌∷◌, Some, option_map, map, get_or, refl, sym, ap, subst, ◌∙◌, inl, inr, arith}
use Rattle.std.specs.Prelude.{◌⊎◌, IsTrue, filter, All, AllPairs, Contains, slice_get}
use Rattle.std.specs.List.{AllZip}
use Rattle.std.proofs.lemmas.Bool.{cases_Bool, eqb-true}
use Rattle.std.proofs.lemmas.List.Elements.{All-contains, All-head, All-tail, All-weaker}
use Rattle.std.proofs.lemmas.List.Kept.{AllPairs-filter}
use Rattle.std.proofs.lemmas.Option.{get_or_from_slice_get, slice_get_within}
use Rattle.gt_types.specs.declared.program.Cache.{Cache}
use Rattle.gt_types.specs.declared.program.Program.{Program}
use Rattle.gt_layout.specs.declared.planes.Layouts.{Layouts}
use Rattle.gt_space.specs.Laws.{IsApart}
use Rattle.gt_space.specs.Range.{Range}
use Rattle.gt_tree.specs.Trees.{edges, all_edges}
use Rattle.gt_tree.specs.Blocks.{Nodes}
use Rattle.gt_pages.specs.Ledger as pages
use Rattle.gt_pages.specs.Ledger.{AreApart, IsInPlace, IsOffPage, LiesInside, LiesOutside, Sound, page_address, page_of}
use Rattle.gt_graph.specs.Objects.{Object, Graph, block_of, blocks_of}
use Rattle.gt_graph.specs.Places.{Placed, ArePlacesOf, address_in, ledger_of}
use Rattle.gt_graph.specs.Good.{Heap, ArePairsOf, IsGood, IsGraph, IsObject, IsSingle}
use Rattle.gt_graph.specs.Stands.{Stands}
use Rattle.gt_objects.proofs.Fewer.{AreStill, IsStill, block_still, fields_still, holds_still}
use Rattle.gt_objects.proofs.Filtered.{find_kept, first_freed, first_kept, kept_there, map_kept, rising_pairs}
use Rattle.gt_objects.proofs.Items.{all_by, map_there, there_mapped}
use Rattle.gt_objects.proofs.Leaves.{Agree}
use Rattle.gt_objects.proofs.Naming.{address_named, name_is, object_of_block}
use Rattle.gt_objects.proofs.Standing.{block_stands, record_stands}

-- all that is kept, the roots and the pairs name is kept
pub record IsClosedBy (kept : ℕ → Bool) (g : Graph) : Type 0 where
  pub objects_lead : (o : Object) → Contains g.objects o → IsTrue (kept o.id) → All (λ id. IsTrue (kept id)) (edges o.value)
  pub roots_lead : All (λ id. IsTrue (kept id)) (all_edges g.statics)
  pub pairs_lead : All (λ pairs. All (λ pair. IsTrue (kept pair.0) × IsTrue (kept pair.1)) pairs) g.pairs

-- the heap of what is kept
abbrev pub kept_of : (ℕ → Bool) → Heap → Heap
kept_of kept heap = record {
  graph = record heap.graph { objects = filter (λ o. kept o.id) heap.graph.objects };
  places = record heap.places { placed = filter (λ p. kept p.id) heap.places.placed };
}

-- ---- pairs

pairs_still : (kept : ℕ → Bool) (objects others : List Object) → ((id : ℕ) → IsTrue (kept id) → IsStill (blocks_of objects) (blocks_of others) id) → (caches : List Cache) (pairs : List (List (ℕ × ℕ)))
    → All (λ pairs. All (λ pair. IsTrue (kept pair.0) × IsTrue (kept pair.1)) pairs) pairs → AllZip (ArePairsOf objects) caches pairs → AllZip (ArePairsOf others) caches pairs
pairs_still kept objects others still [] [] lead are = tt
pairs_still kept objects others still [] (ps ∷ pairs) lead are = absurd are
pairs_still kept objects others still (c ∷ caches) [] lead are = absurd are
pairs_still kept objects others still (c ∷ caches) (ps ∷ pairs) lead are =
    let mine = All-head (λ pairs. All (λ pair. IsTrue (kept pair.0) × IsTrue (kept pair.1)) pairs) ps pairs lead in (
      record {
        singles = all_by (λ pair. IsSingle others pair.0 c.key × IsSingle others pair.1 c.value) ps (λ pair there.
            let leads = All-contains (λ pair. IsTrue (kept pair.0) × IsTrue (kept pair.1)) ps pair mine there in
            let is = All-contains (λ pair. IsSingle objects pair.0 c.key × IsSingle objects pair.1 c.value) ps pair are.0.singles there in (
              holds_still (blocks_of objects) (blocks_of others) pair.0 (still pair.0 leads.0) (Nodes c.key) 1 is.0,
              holds_still (blocks_of objects) (blocks_of others) pair.1 (still pair.1 leads.1) (Nodes c.value) 1 is.1,
            ));
        distinct = are.0.distinct;
      },
      pairs_still kept objects others still caches pairs (All-tail (λ pairs. All (λ pair. IsTrue (kept pair.0) × IsTrue (kept pair.1)) pairs) ps pairs lead) are.1,
    )

-- ---- blocks that are apart

apart_kept : (keeps : Placed → Bool) (placed : List Placed) → AreApart (map (λ p. p.block) placed) → AreApart (map (λ p. p.block) (filter keeps placed))
apart_kept keeps [] apart = apart
apart_kept keeps (p ∷ placed) apart = elim (cases_Bool (keeps p)) as (λ _. AreApart (map (λ p. p.block) (filter keeps (p ∷ placed)))) [
  | inl stays ↦
      subst (λ ps. AreApart (map (λ p. p.block) ps)) (sym (first_kept keeps p placed stays)) (
        all_by (λ c. IsApart p.block.address p.block.size c.address c.size) (map (λ p. p.block) (filter keeps placed)) (λ c there.
            let from = there_mapped (λ p. p.block) (filter keeps placed) c there in
            All-contains (λ c. IsApart p.block.address p.block.size c.address c.size) (map (λ p. p.block) placed) c apart.0
            (subst (Contains (map (λ p. p.block) placed)) from.2 (map_there (λ p. p.block) placed from.0 (kept_there keeps placed from.0 from.1).0))),
        apart_kept keeps placed apart.1,
      )
  | inr goes ↦ subst (λ ps. AreApart (map (λ p. p.block) ps)) (sym (first_freed keeps p placed goes)) (apart_kept keeps placed apart.1)
]

-- ---- the whole

module _ (program : Program) (layouts : Layouts) (kept : ℕ → Bool) (heap : Heap) (good : IsGood program layouts heap) (closed : IsClosedBy kept heap.graph) where
  abbrev after : Heap
  after = kept_of kept heap

  abbrev mine : Object → Bool
  mine o = kept o.id

  abbrev its : Placed → Bool
  its p = kept p.id

  still : (id : ℕ) → IsTrue (kept id) → IsStill (blocks_of heap.graph.objects) (blocks_of after.graph.objects) id
  still id stays b e =
      ap (option_map block_of) (find_kept mine (λ o. o.id == id) heap.graph.objects (λ o there named. ap kept (eqb-true o.id id named) ∙ stays)) ∙ e

  all_still : (ids : List ℕ) → All (λ id. IsTrue (kept id)) ids → AreStill (blocks_of heap.graph.objects) (blocks_of after.graph.objects) ids
  all_still ids all id there = still id (All-contains (λ id. IsTrue (kept id)) ids id all there)

  object_still : (o : Object) → Contains heap.graph.objects o → IsTrue (kept o.id) → IsObject program after.graph o
  object_still o there stays =
      let is = All-contains (IsObject program heap.graph) heap.graph.objects o good.graph.objects there in
      record {
        may_hold = is.may_hold;
        single_tail = is.single_tail;
        no_room = is.no_room;
        fits = block_still (blocks_of heap.graph.objects) (blocks_of after.graph.objects) program heap.graph.statics o.kind o.count o.capacity o.value
            (all_still (edges o.value) (closed.objects_lead o there stays)) is.fits;
      }

  pub graph : IsGraph program after.graph
  graph = record {
    distinct = AllPairs-filter (λ o p. o.id ≢ p.id) mine heap.graph.objects good.graph.distinct;
    objects = all_by (IsObject program after.graph) after.graph.objects (λ o there. let from = kept_there mine heap.graph.objects o there in object_still o from.0 from.1);
    statics = fields_still (blocks_of heap.graph.objects) (blocks_of after.graph.objects) (all_still (all_edges heap.graph.statics) closed.roots_lead) good.graph.statics;
    pairs = pairs_still kept heap.graph.objects after.graph.objects still program.caches heap.graph.pairs closed.pairs_lead good.graph.pairs;
    few_pairs = good.graph.few_pairs;
  }

  -- ---- places

  pub names : map (λ p. p.id) after.places.placed ≡ map (λ o. o.id) after.graph.objects
  names = map_kept (λ p. p.id) kept heap.places.placed ∙ ap (filter kept) good.places.names ∙ sym (map_kept (λ o. o.id) kept heap.graph.objects)

  rises : AllPairs (λ p q. p.block.address < q.block.address) after.places.placed
  rises = AllPairs-filter (λ p q. p.block.address < q.block.address) its heap.places.placed (rising_pairs (λ p. p.block.address) heap.places.placed good.places.rising)

  rising : (i : ℕ) (p q : Placed) → slice_get after.places.placed i ≡ Some p → slice_get after.places.placed (i + 1) ≡ Some q → p.block.address < q.block.address
  rising i p q at next =
      let low = slice_get_within after.places.placed (i + 1) q next in
      let before : i < i + 1 = omega arith in
      let first = get_or_from_slice_get after.places.placed i p p at in
      let second = get_or_from_slice_get after.places.placed (i + 1) q p next in
      subst (λ x. x.block.address < q.block.address) first (subst (λ y. (get_or after.places.placed i p).block.address < y.block.address) second (rises i (i + 1) p before low))

  -- the blocks that are left were there
  block_there : (b : pages.Block) → Contains (ledger_of after.places).blocks b → Contains (ledger_of heap.places).blocks b
  block_there b there =
      let from = there_mapped (λ p. p.block) after.places.placed b there in
      subst (Contains (ledger_of heap.places).blocks) from.2 (map_there (λ p. p.block) heap.places.placed from.0 (kept_there its heap.places.placed from.0 from.1).0)

  all_there : (P : pages.Block → Type 0) → All P (ledger_of heap.places).blocks → All P (ledger_of after.places).blocks
  all_there P all = all_by P (ledger_of after.places).blocks (λ b there. All-contains P (ledger_of heap.places).blocks b all (block_there b there))

  in_place : (b : pages.Block) → IsInPlace (ledger_of heap.places) b → IsInPlace (ledger_of after.places) b
  in_place b is = record {
    small = is.small;
    alike = λ small. all_there (λ c. (c.size ≡ b.size) ⊎ IsOffPage c.address c.size (page_of b.address)) (is.alike small);
    large = is.large;
  }

  sound : Sound (ledger_of after.places)
  sound =
      let was = good.places.sound in
      record {
        in_space = all_there (λ b. (0x10000000 ≤ b.address) × (b.address + b.size ≤ page_address heap.places.pages)) was.in_space;
        apart = apart_kept its heap.places.placed was.apart;
        sides = all_there (λ b. LiesInside (ledger_of heap.places) b.address b.size ⊎ LiesOutside (ledger_of heap.places) b.address b.size) was.sides;
        places = all_there (λ b. LiesOutside (ledger_of after.places) b.address b.size → IsInPlace (ledger_of after.places) b)
            (All-weaker (λ b. LiesOutside (ledger_of heap.places) b.address b.size → IsInPlace (ledger_of heap.places) b)
            (λ b. LiesOutside (ledger_of after.places) b.address b.size → IsInPlace (ledger_of after.places) b) (λ b is out. in_place b (is out)) (ledger_of heap.places).blocks was.places);
      }

  pub places : ArePlacesOf program layouts after.graph.objects after.places
  places = record {
    names = names;
    by_address = all_by (λ p. p.id ≡ p.block.address) after.places.placed (λ p there. name_is good.places p (kept_there its heap.places.placed p there).0);
    rising = rising;
    sound = sound;
    sizes = λ o p here there same. good.places.sizes o p (kept_there mine heap.graph.objects o here).0 (kept_there its heap.places.placed p there).0 same;
  }

  -- the heap of what is kept is good
  pub kept_good : IsGood program layouts after
  kept_good = record { graph = graph; places = places }

  -- ---- bytes

  same_addresses : Agree (address_in heap.places.placed) (address_in after.places.placed) (blocks_of after.graph.objects)
  same_addresses id b e =
      let o = object_of_block after.graph.objects id b e in
      let from = kept_there mine heap.graph.objects o.0 o.2 in
      let stays : IsTrue (kept id) = sym (ap kept o.3) ∙ from.1 in
      let before = find_kept mine (λ o. o.id == id) heap.graph.objects (λ o there named. ap kept (eqb-true o.id id named) ∙ stays) in
      address_named good.places id b (sym (ap (option_map block_of) before) ∙ e) ∙ sym (address_named places id b e)

  -- the same bytes stand for it
  pub kept_stands : (range : Range) → Stands program layouts heap range → Stands program layouts after range
  kept_stands range stands = record {
    sized = stands.sized;
    statics = record_stands program layouts (blocks_of after.graph.objects) heap.graph.statics (address_in heap.places.placed) (address_in after.places.placed) same_addresses range range
        graph.statics refl stands.statics;
    objects = λ o p here there same.
        block_stands program layouts (blocks_of after.graph.objects) heap.graph.statics (address_in heap.places.placed) (address_in after.places.placed) same_addresses range range o p.block
        (All-contains (IsObject program after.graph) after.graph.objects o graph.objects here).fits refl
        (stands.objects o p (kept_there mine heap.graph.objects o here).0 (kept_there its heap.places.placed p there).0 same);
  }
