-- The heap that a collection leaves is good.
use Rattle.std.proofs.Common.{◌≡◌, ◌≢◌, ℕ, ◌+◌, ◌≤◌, cond, List, [], ◌∷◌, Some, length, map, ap, sym, subst, ◌∙◌, inl, inr, arith}
use Rattle.std.specs.Prelude.{IsTrue, All, AllPairs, Contains}
use Rattle.std.specs.List.{AllZip}
use Rattle.std.proofs.lemmas.Bool.{eq-eqb, ne_eqb}
use Rattle.std.proofs.lemmas.List.Elements.{All-contains, All-cons, All-nil, All-weaker}
use Rattle.std.proofs.lemmas.List.Kept.{AllPairs-cons}
use Rattle.std.proofs.lemmas.List.Sums.{sum_by-cons}
use Rattle.gt_types.specs.declared.program.Cache.{Cache}
use Rattle.gt_types.specs.declared.program.Program.{Program}
use Rattle.gt_layout.specs.declared.planes.Layouts.{Layouts}
use Rattle.gt_tree.specs.Trees.{Trees, edges, all_edges, all_without_pointers}
use Rattle.gt_tree.specs.Blocks.{Block}
use Rattle.gt_tree.specs.Scopes.{outside}
use Rattle.gt_graph.specs.Objects.{Object, Graph, object_of, blocks_of, pairs_in}
use Rattle.gt_graph.specs.Good.{Heap, ArePairsOf, IsGood, IsGraph, IsObject, IsSingle}
use Rattle.gt_graph.specs.Kept.{After, CachesStay, PairsStay, PointsTo, ReachedFrom, ReachedWith, without_deletable}
use Rattle.gt_objects.proofs.Items.{all_by, first_there, later_there, none_there, pairs_head, pairs_tail, there_cases}
use Rattle.gt_objects.proofs.Naming.{object_of_block}
use Rattle.gt_objects.proofs.Sweeping.{IsClosedBy, kept_good, kept_of}
use Rattle.gt_collect.proofs.Bare.{bare_roots, block_alike, outside_alike}
use Rattle.gt_collect.proofs.Cleared.{cleared_edges, cleared_fit, each_named, static_named}

-- one pointer further
pub reached_on : {g : Graph} {from through to : ℕ} → ReachedFrom g from through → PointsTo g through to → ReachedFrom g from to
reached_on ReachedFrom.itself points = ReachedFrom.onward points ReachedFrom.itself
reached_on (ReachedFrom.onward first rest) points = ReachedFrom.onward first (reached_on rest points)

-- by its name an object is found itself
pub found_itself : (objects : List Object) (o : Object) → AllPairs (λ p q. p.id ≢ q.id) objects → Contains objects o → object_of objects o.id ≡ Some o
found_itself [] o pairs there = none_there o there
found_itself (p ∷ objects) o pairs there = elim (there_cases p objects o there) as (λ _. object_of (p ∷ objects) o.id ≡ Some o) [
  | inl same ↦ ap (λ b. cond b (Some p) (object_of objects o.id)) (eq-eqb p.id o.id (ap (λ x. x.id) same)) ∙ ap (λ x. Some x) same
  | inr later ↦
      ap (λ b. cond b (Some p) (object_of objects o.id)) (ne_eqb p.id o.id (All-contains (λ q. p.id ≢ q.id) objects o (pairs_head (λ p q. p.id ≢ q.id) p objects pairs) later))
      ∙ found_itself objects o (pairs_tail (λ p q. p.id ≢ q.id) p objects pairs) later
]

-- ---- pairs that stay

module _ (program : Program) (g : Graph) where
  more_reached : (few many : List ℕ) → ((id : ℕ) → Contains few id → Contains many id) → (id : ℕ) → ReachedWith program g few id → ReachedWith program g many id
  more_reached few many within id (from, inl root, way) = (from, inl root, way)
  more_reached few many within id (from, inr value, way) = (from, inr (within from value), way)

  values_stay : {values after : List ℕ} {old new : List (ℕ × ℕ)} → PairsStay program g values old new after → (id : ℕ) → Contains values id → Contains after id
  values_stay PairsStay.no_pair id there = there
  values_stay (PairsStay.stays {values} {pair} reached rest) id there = values_stay rest id (later_there pair.1 values id there)
  values_stay (PairsStay.goes not_reached rest) id there = values_stay rest id there

  all_values_stay : {values after : List ℕ} {olds news : List (List (ℕ × ℕ))} → CachesStay program g values olds news after → (id : ℕ) → Contains values id → Contains after id
  all_values_stay CachesStay.no_cache id there = there
  all_values_stay (CachesStay.next_cache pairs caches) id there = all_values_stay caches id (values_stay pairs id there)

  -- a pair that stays was there; its key is reached, and its value is one from which objects are reached
  record IsHeld (values : List ℕ) (old : List (ℕ × ℕ)) (pair : ℕ × ℕ) : Type 0 where
    was : Contains old pair
    key : ReachedWith program g values pair.0
    value : Contains values pair.1

  pair_held : {values after : List ℕ} {old new : List (ℕ × ℕ)} → PairsStay program g values old new after → (pair : ℕ × ℕ) → Contains new pair → IsHeld after old pair
  pair_held PairsStay.no_pair pair there = none_there pair there
  pair_held (PairsStay.stays {values} {after} {pair = first} {old} {new} reached rest) pair there = elim (there_cases first new pair there) as (λ _. IsHeld after (first ∷ old) pair) [
    | inl same ↦ subst (IsHeld after (first ∷ old)) same (record {
      was = first_there first old;
      key = more_reached values after (λ id has. values_stay rest id (later_there first.1 values id has)) first.0 reached;
      value = values_stay rest first.1 (first_there first.1 values);
    })
    | inr later ↦ let held = pair_held rest pair later in record { was = later_there first old pair held.was; key = held.key; value = held.value }
  ]
  pair_held (PairsStay.goes {pair = first} {old} not_reached rest) pair there = let held = pair_held rest pair there in record { was = later_there first old pair held.was; key = held.key; value = held.value }

  abbrev Differ : ℕ × ℕ → ℕ × ℕ → Type 0
  Differ pair other = pair.0 ≢ other.0

  still_distinct : {values after : List ℕ} {old new : List (ℕ × ℕ)} → PairsStay program g values old new after → AllPairs Differ old → AllPairs Differ new
  still_distinct PairsStay.no_pair differ = differ
  still_distinct (PairsStay.stays {pair = first} {old} {new} reached rest) differ =
      AllPairs-cons Differ first new (all_by (Differ first) new (λ pair there. All-contains (Differ first) old pair (pairs_head Differ first old differ) (pair_held rest pair there).was))
      (still_distinct rest (pairs_tail Differ first old differ))
  still_distinct (PairsStay.goes {pair = first} {old} not_reached rest) differ = still_distinct rest (pairs_tail Differ first old differ)

  no_more_pairs : {values after : List ℕ} {old new : List (ℕ × ℕ)} → PairsStay program g values old new after → length new ≤ length old
  no_more_pairs PairsStay.no_pair = omega arith
  no_more_pairs (PairsStay.stays reached rest) = let less = no_more_pairs rest in omega (arith, less)
  no_more_pairs (PairsStay.goes not_reached rest) = let less = no_more_pairs rest in omega (arith, less)

  pairs_first : (pairs : List (ℕ × ℕ)) (caches : List (List (ℕ × ℕ))) → pairs_in (pairs ∷ caches) ≡ length pairs + pairs_in caches
  pairs_first pairs caches = sum_by-cons (λ n. n) (length pairs) (map (λ pairs. length pairs) caches)

  pub still_few : {values after : List ℕ} {olds news : List (List (ℕ × ℕ))} → CachesStay program g values olds news after → pairs_in news ≤ pairs_in olds
  still_few CachesStay.no_cache = omega arith
  still_few (CachesStay.next_cache {old} {new} {olds} {news} pairs caches) =
      let less = no_more_pairs pairs in
      let rest = still_few caches in
      let before = pairs_first old olds in
      let now = pairs_first new news in
      omega (arith, less, rest, before, now)

  -- pairs of a cache that stay are such pairs
  pub still_pairs : (objects : List Object) (caches : List Cache) {values after : List ℕ} {olds news : List (List (ℕ × ℕ))} → CachesStay program g values olds news after
      → AllZip (ArePairsOf objects) caches olds → AllZip (ArePairsOf objects) caches news
  still_pairs objects [] CachesStay.no_cache are = tt
  still_pairs objects [] (CachesStay.next_cache pairs rest) are = absurd are
  still_pairs objects (c ∷ caches) CachesStay.no_cache are = absurd are
  still_pairs objects (c ∷ caches) (CachesStay.next_cache {old} {new} pairs rest) are = (
    record {
      singles = all_by (λ pair. IsSingle objects pair.0 c.key × IsSingle objects pair.1 c.value) new (λ pair there.
          All-contains (λ pair. IsSingle objects pair.0 c.key × IsSingle objects pair.1 c.value) old pair are.0.singles (pair_held pairs pair there).was);
      distinct = still_distinct pairs are.0.distinct;
    },
    still_pairs objects caches rest are.1,
  )

  -- what holds of blocks that are reached holds of keys and values that stay
  pub pairs_reached : (objects : List Object) (caches : List Cache) {values after : List ℕ} {olds news : List (List (ℕ × ℕ))} (last : List ℕ) → ((id : ℕ) → Contains after id → Contains last id)
      → CachesStay program g values olds news after → AllZip (ArePairsOf objects) caches olds
      → (marks : ℕ → Type 0) → ((id : ℕ) (b : Block) → blocks_of objects id ≡ Some b → ReachedWith program g last id → marks id)
      → All (λ pairs. All (λ pair. marks pair.0 × marks pair.1) pairs) news
  pairs_reached objects [] last within CachesStay.no_cache are marks reach = All-nil (λ pairs. All (λ pair. marks pair.0 × marks pair.1) pairs)
  pairs_reached objects [] last within (CachesStay.next_cache pairs rest) are marks reach = absurd are
  pairs_reached objects (c ∷ caches) last within CachesStay.no_cache are marks reach = absurd are
  pairs_reached objects (c ∷ caches) last within (CachesStay.next_cache {middle} {old} {new} {news} pairs rest) are marks reach =
      All-cons (λ pairs. All (λ pair. marks pair.0 × marks pair.1) pairs) new news
      (all_by (λ pair. marks pair.0 × marks pair.1) new (λ pair there.
      let held = pair_held pairs pair there in
      let single = All-contains (λ pair. IsSingle objects pair.0 c.key × IsSingle objects pair.1 c.value) old pair are.0.singles held.was in
      let later : (id : ℕ) → Contains middle id → Contains last id = λ id has. within id (all_values_stay rest id has) in (
        reach pair.0 single.0.0 single.0.1 (more_reached middle last later pair.0 held.key),
        reach pair.1 single.1.0 single.1.1 (pair.1, inr (later pair.1 held.value), ReachedFrom.itself),
      )))
      (pairs_reached objects caches last within rest are.1 marks reach)

-- ---- the heap

module _ (program : Program) (layouts : Layouts) (old new : Heap) (good : IsGood program layouts old) (after : After program old new) where
  abbrev values : Trees
  values = without_deletable program.roots old.graph.statics

  -- the old objects with the new roots and pairs
  abbrev between : Heap
  between = record { graph = record { objects = old.graph.objects; statics = values; pairs = new.graph.pairs }; places = old.places }

  same_bare : all_without_pointers old.graph.statics ≡ all_without_pointers values
  same_bare = sym (bare_roots program.roots old.graph.statics)

  object_between : (o : Object) → IsObject program old.graph o → IsObject program between.graph o
  object_between o is = record {
    may_hold = is.may_hold;
    single_tail = is.single_tail;
    no_room = is.no_room;
    fits = block_alike program (blocks_of old.graph.objects) old.graph.statics values o.kind o.count o.capacity o.value same_bare is.fits;
  }

  few_between : pairs_in new.graph.pairs ≤ 1048576
  few_between = let less = still_few program old.graph after.stay in let few = good.graph.few_pairs in omega (arith, less, few)

  graph_between : IsGraph program between.graph
  graph_between = record {
    distinct = good.graph.distinct;
    objects = All-weaker (IsObject program old.graph) (IsObject program between.graph) object_between old.graph.objects good.graph.objects;
    statics = cleared_fit (outside values) (outside_alike old.graph.statics values same_bare) program.roots old.graph.statics good.graph.statics;
    pairs = still_pairs program old.graph old.graph.objects program.caches after.stay good.graph.pairs;
    few_pairs = few_between;
  }

  -- a block that is reached is kept
  named_kept : (id : ℕ) (b : Block) → blocks_of old.graph.objects id ≡ Some b → ReachedWith program old.graph after.values id → IsTrue (after.kept id)
  named_kept id b e reached =
      let o = object_of_block old.graph.objects id b e in
      subst (λ n. IsTrue (after.kept n)) o.3 ((after.exact o.0 o.2).1 (subst (ReachedWith program old.graph after.values) (sym o.3) reached))

  closed : IsClosedBy after.kept between.graph
  closed = record {
    objects_lead = λ o there stays. all_by (λ id. IsTrue (after.kept id)) (edges o.value) (λ id leads.
        let is_object = All-contains (IsObject program old.graph) old.graph.objects o good.graph.objects there in
        let reached = (after.exact o there).0 stays in
        let its = each_named is_object.fits.each id (subst (λ t. Contains (edges t) id) is_object.fits.row leads) in
        named_kept id its.0 its.1 (reached.0, reached.1, reached_on reached.2 (o, found_itself old.graph.objects o good.graph.distinct there, leads)));
    roots_lead = all_by (λ id. IsTrue (after.kept id)) (all_edges values) (λ id leads.
        let root = cleared_edges program.roots old.graph.statics good.graph.statics id leads in
        let its = static_named program.roots old.graph.statics good.graph.statics id root in
        named_kept id its.0 its.1 (id, inl root, ReachedFrom.itself));
    pairs_lead = pairs_reached program old.graph old.graph.objects program.caches after.values (λ id has. has) after.stay good.graph.pairs (λ id. IsTrue (after.kept id)) named_kept;
  }

  is_kept : kept_of after.kept between ≡ new
  is_kept =
      sym (ap (λ x. let h : Heap = record { graph = record { objects = x; statics = new.graph.statics; pairs = new.graph.pairs }; places = new.places } in h) after.objects
      ∙ ap (λ x. let h : Heap = record { graph = record { objects = (kept_of after.kept between).graph.objects; statics = x; pairs = new.graph.pairs }; places = new.places } in h) after.statics
      ∙ ap (λ x. let h : Heap = record { graph = (kept_of after.kept between).graph; places = x } in h) after.places)

  pub after_good : IsGood program layouts new
  after_good = subst (IsGood program layouts) is_kept (kept_good program layouts after.kept between (record { graph = graph_between; places = good.places }) closed)
