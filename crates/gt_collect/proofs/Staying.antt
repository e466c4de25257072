-- The pairs that stay in a collection: they are pairs of their caches still, and their keys and values are reached.
use Rattle.std.proofs.Common.{◌≡◌, ◌≢◌, ℕ, Bool, List, [], ◌∷◌, Some, inl, inr}
use Rattle.std.specs.Prelude.{All, AllPairs, Contains, IsTrue}
use Rattle.std.specs.List.{AllZip}
use Rattle.std.proofs.lemmas.List.Elements.{All-cons, All-contains, All-head, All-nil, All-tail}
use Rattle.std.proofs.lemmas.List.Kept.{AllPairs-cons}
use Rattle.gt_types.specs.declared.program.Cache.{Cache}
use Rattle.gt_types.specs.declared.program.Program.{Program}
use Rattle.gt_tree.specs.Blocks.{Block}
use Rattle.gt_graph.specs.Objects.{Object, Graph, blocks_of}
use Rattle.gt_graph.specs.Good.{ArePairsOf, IsSingle}
use Rattle.gt_graph.specs.Kept.{CachesStay, PairsStay, ReachedFrom, ReachedWith}
use Rattle.gt_objects.proofs.Items.{all_by, first_there, later_there, pairs_head, pairs_tail}

module _ (program : Program) (g : Graph) where
  -- ---- what is reached

  pairs_grow : {values after : List ℕ} {old new : List (ℕ × ℕ)} → PairsStay program g values old new after → (id : ℕ) → Contains values id → Contains after id
  pairs_grow PairsStay.no_pair id has = has
  pairs_grow (PairsStay.stays {values} {pair} reached rest) id has = pairs_grow rest id (later_there pair.1 values id has)
  pairs_grow (PairsStay.goes not_reached rest) id has = pairs_grow rest id has

  caches_grow : {values after : List ℕ} {old new : List (List (ℕ × ℕ))} → CachesStay program g values old new after → (id : ℕ) → Contains values id → Contains after id
  caches_grow CachesStay.no_cache id has = has
  caches_grow (CachesStay.next_cache pairs rest) id has = caches_grow rest id (pairs_grow pairs id has)

  reached_grown : (few many : List ℕ) → ((id : ℕ) → Contains few id → Contains many id) → (to : ℕ) → ReachedWith program g few to → ReachedWith program g many to
  reached_grown few many grows to (from, inl root, way) = (from, inl root, way)
  reached_grown few many grows to (from, inr value, way) = (from, inr (grows from value), way)

  -- the key of a pair is reached, and its value is one of these
  abbrev pub Leads : List ℕ → ℕ × ℕ → Type 0
  Leads values pair = ReachedWith program g values pair.0 × Contains values pair.1

  pairs_lead : {values after : List ℕ} {old new : List (ℕ × ℕ)} → PairsStay program g values old new after → (all : List ℕ) → ((id : ℕ) → Contains after id → Contains all id) → All (Leads all) new
  pairs_lead PairsStay.no_pair all grows = All-nil (Leads all)
  pairs_lead (PairsStay.stays {values} {pair} {new} reached rest) all grows =
      All-cons (Leads all) pair new (
        reached_grown values all (λ id has. grows id (pairs_grow rest id (later_there pair.1 values id has))) pair.0 reached,
        grows pair.1 (pairs_grow rest pair.1 (first_there pair.1 values)),
      )
      (pairs_lead rest all grows)
  pairs_lead (PairsStay.goes not_reached rest) all grows = pairs_lead rest all grows

  pub caches_lead : {values after : List ℕ} {old new : List (List (ℕ × ℕ))} → CachesStay program g values old new after → (all : List ℕ) → ((id : ℕ) → Contains after id → Contains all id)
      → All (λ pairs. All (Leads all) pairs) new
  caches_lead CachesStay.no_cache all grows = All-nil (λ pairs. All (Leads all) pairs)
  caches_lead (CachesStay.next_cache {new} {news} pairs rest) all grows =
      All-cons (λ ps. All (Leads all) ps) new news (pairs_lead pairs all (λ id has. grows id (caches_grow rest id has))) (caches_lead rest all grows)

  -- ---- pairs of caches

  all_stay : (P : ℕ × ℕ → Type 0) {values after : List ℕ} {old new : List (ℕ × ℕ)} → PairsStay program g values old new after → All P old → All P new
  all_stay P PairsStay.no_pair all = all
  all_stay P (PairsStay.stays {pair} {old} {new} reached rest) all = All-cons P pair new (All-head P pair old all) (all_stay P rest (All-tail P pair old all))
  all_stay P (PairsStay.goes {pair} {old} not_reached rest) all = all_stay P rest (All-tail P pair old all)

  distinct_stay : (R : ℕ × ℕ → ℕ × ℕ → Type 0) {values after : List ℕ} {old new : List (ℕ × ℕ)} → PairsStay program g values old new after → AllPairs R old → AllPairs R new
  distinct_stay R PairsStay.no_pair all = all
  distinct_stay R (PairsStay.stays {pair} {old} {new} reached rest) all =
      AllPairs-cons R pair new (all_stay (R pair) rest (pairs_head R pair old all)) (distinct_stay R rest (pairs_tail R pair old all))
  distinct_stay R (PairsStay.goes {pair} {old} not_reached rest) all = distinct_stay R rest (pairs_tail R pair old all)

  pub are_pairs : (objects : List Object) (caches : List Cache) {values after : List ℕ} {old new : List (List (ℕ × ℕ))} → CachesStay program g values old new after
      → AllZip (ArePairsOf objects) caches old → AllZip (ArePairsOf objects) caches new
  are_pairs objects [] CachesStay.no_cache zip = zip
  are_pairs objects (c ∷ caches) CachesStay.no_cache zip = absurd zip
  are_pairs objects [] (CachesStay.next_cache pairs rest) zip = absurd zip
  are_pairs objects (c ∷ caches) (CachesStay.next_cache pairs rest) zip = (
    record {
      singles = all_stay (λ pair. IsSingle objects pair.0 c.key × IsSingle objects pair.1 c.value) pairs zip.0.singles;
      distinct = distinct_stay (λ pair other. pair.0 ≢ other.0) pairs zip.0.distinct;
    },
    are_pairs objects caches rest zip.1,
  )

  -- ---- marks

  -- keys and values are marked, where each block that is reached is
  pub pairs_marked : (marks : ℕ → Bool) (values : List ℕ) (objects : List Object) → ((id : ℕ) (b : Block) → blocks_of objects id ≡ Some b → ReachedWith program g values id → IsTrue (marks id))
      → (caches : List Cache) (pairs : List (List (ℕ × ℕ))) → AllZip (ArePairsOf objects) caches pairs → All (λ ps. All (Leads values) ps) pairs
      → All (λ ps. All (λ pair. IsTrue (marks pair.0) × IsTrue (marks pair.1)) ps) pairs
  pairs_marked marks values objects named [] [] zip lead = All-nil (λ ps. All (λ pair. IsTrue (marks pair.0) × IsTrue (marks pair.1)) ps)
  pairs_marked marks values objects named (c ∷ caches) [] zip lead = absurd zip
  pairs_marked marks values objects named [] (ps ∷ pairs) zip lead = absurd zip
  pairs_marked marks values objects named (c ∷ caches) (ps ∷ pairs) zip lead =
      let leads = All-head (λ ps. All (Leads values) ps) ps pairs lead in
      All-cons (λ ps. All (λ pair. IsTrue (marks pair.0) × IsTrue (marks pair.1)) ps) ps pairs
      (all_by (λ pair. IsTrue (marks pair.0) × IsTrue (marks pair.1)) ps (λ pair there.
      let way = All-contains (Leads values) ps pair leads there in
      let single = All-contains (λ pair. IsSingle objects pair.0 c.key × IsSingle objects pair.1 c.value) ps pair zip.0.singles there in
      (named pair.0 single.0.0 single.0.1 way.0, named pair.1 single.1.0 single.1.1 (pair.1, inr way.1, ReachedFrom.itself))))
      (pairs_marked marks values objects named caches pairs zip.1 (All-tail (λ ps. All (Leads values) ps) ps pairs lead))
