-- Drop, heap, stats, find and put have an answer.
use Rattle.std.proofs.Common.{◌≡◌, ℕ, zero, suc, ◌<◌, ◌≤◌, List, [], ◌∷◌, refl, ap, subst, Option, Some, None, ◌⊎◌, inl, inr}
use Rattle.std.specs.Prelude.{slice_get}
use Rattle.std.specs.List.{AllZip}
use Rattle.std.specs.Str.{bytes_eq}
use Rattle.std.proofs.lemmas.Bool.{cases_lt}
use Rattle.gt_types.specs.declared.types.TypeId.{TypeId}
use Rattle.gt_types.specs.declared.program.Cache.{Cache}
use Rattle.gt_types.specs.declared.program.Program.{Program}
use Rattle.gt_layout.specs.declared.planes.Layouts.{Layouts}
use Rattle.gt_tree.specs.Blocks.{Kind, Nodes, Block}
use Rattle.gt_tree.proofs.PathBits.{some-same}
use Rattle.gt_graph.specs.Objects.{Object, blocks_of, pairs_in}
use Rattle.gt_graph.specs.Good.{MAX_PAIRS, IsSingle, ArePairsOf}
use Rattle.gt_next.specs.declared.answer.Answer.{Answer}
use Rattle.gt_next.specs.declared.answer.Why.{Why}
use Rattle.gt_next.specs.States.{State, meaning, IsGoodState}
use Rattle.gt_next.specs.Caching.{cache_of, value_of_key, RefusesMember, IsMember, IsCacheAt, NextPut, NextFind}
use Rattle.gt_next.specs.Collecting.{NextStats}
use Rattle.gt_next.specs.Next.{NextDrop, NextHeap}
use Rattle.gt_determined.proofs.Decisions.{Known, known-same, known-node}
use Rattle.gt_determined.proofs.Actives.{found-at}

-- some answer, and some next state
abbrev pub SomeStep : (Answer → State → Type 0) → Type 0
SomeStep Steps = (a : Answer) × (t : State) × Steps a t

pub drop-there : (s : State) (var : List ℕ) → SomeStep (NextDrop s var)
drop-there s var = go (meaning s.variables var) refl
  where
    go : (m : Option ℕ) → meaning s.variables var ≡ m → SomeStep (NextDrop s var)
    go None e = (_, _, NextDrop.unbound e)
    go (Some id) e = (_, _, NextDrop.drops e)

pub heap-there : (s : State) → SomeStep (NextHeap s)
heap-there s = (_, _, NextHeap.reports)

pub stats-there : (s : State) → SomeStep (NextStats s)
stats-there s = (_, _, NextStats.reports)

-- ---- keys and values

known-kind : (kind : Kind) (node : TypeId) → Known (kind ≡ Nodes node)
known-kind (Nodes other) node = go (known-node other node)
  where
    go : Known (other ≡ node) → Known (Nodes other ≡ Nodes node)
    go (inl e) = inl (ap Nodes e)
    go (inr n) = inr (λ e. let same : other ≡ node = cc in n same)
known-kind kind node = inr (λ e. cc)

known-single : (objects : List Object) (id : ℕ) (node : TypeId) → Known (IsSingle objects id node)
known-single objects id node = at (blocks_of objects id) refl
  where
    of : (b : Block) → blocks_of objects id ≡ Some b → Known (b.kind ≡ Nodes node) → Known (b.count ≡ 1) → Known (IsSingle objects id node)
    of b e (inl k) (inl n) = inl (b, e, k, n)
    of b e (inr other) n = inr (λ h. other (subst (λ x. x.kind ≡ Nodes node) (some-same (blocks_of objects id) h.0 b h.1 e) h.2))
    of b e (inl k) (inr other) = inr (λ h. other (subst (λ x. x.count ≡ 1) (some-same (blocks_of objects id) h.0 b h.1 e) h.3))

    at : (found : Option Block) → blocks_of objects id ≡ found → Known (IsSingle objects id node)
    at None e = inr (λ h. let there = h.1 in cc)
    at (Some b) e = of b e (known-kind b.kind node) (known-same b.count 1)

-- a variable means a single structure of the type, or it is refused
member-or-refused : (s : State) (name : List ℕ) (type : TypeId) → ((id : ℕ) × IsMember s name type id) ⊎ ((why : Why) × RefusesMember s name type why)
member-or-refused s name type = at (meaning s.variables name) refl
  where
    of : (id : ℕ) → meaning s.variables name ≡ Some id → Known (IsSingle s.heap.graph.objects id type) → ((i : ℕ) × IsMember s name type i) ⊎ ((why : Why) × RefusesMember s name type why)
    of id e (inl single) = inl (id, record { bound = e; single = single })
    of id e (inr none) = inr (_, RefusesMember.other e none)

    at : (m : Option ℕ) → meaning s.variables name ≡ m → ((i : ℕ) × IsMember s name type i) ⊎ ((why : Why) × RefusesMember s name type why)
    at None e = inr (_, RefusesMember.unbound e)
    at (Some id) e = of id e (known-single s.heap.graph.objects id type)

-- ---- find and put

pub zip-there : {A B : Type 0} (R : A → B → Type 0) (xs : List A) (ys : List B) (i : ℕ) (x : A) → AllZip R xs ys → slice_get xs i ≡ Some x → (y : B) × (slice_get ys i ≡ Some y)
zip-there R [] [] i x h e = absurd (cc)
zip-there R [] (y ∷ ys) i x h e = absurd h
zip-there R (z ∷ xs) [] i x h e = absurd h
zip-there R (z ∷ xs) (y ∷ ys) zero x h e = (y, refl)
zip-there R (z ∷ xs) (y ∷ ys) (suc i) x h e = zip-there R xs ys i x h.1 e

module _ (program : Program) (layouts : Layouts) (s : State) (good : IsGoodState program layouts s) (name : List ℕ) where
  -- a cache of the program has pairs in a good state
  pub cache-there : (place : ℕ) → cache_of program name ≡ Some place → (cache : Cache) × (pairs : List (ℕ × ℕ)) × IsCacheAt program s name place cache pairs
  cache-there place e =
      let cache = found-at (λ c. bytes_eq c.name name) program.caches place e in
      let pairs = zip-there (ArePairsOf s.heap.graph.objects) program.caches s.heap.graph.pairs place cache.0 good.heap.graph.pairs cache.1 in
      (cache.0, pairs.0, record { at = e; declared = cache.1; held = pairs.1 })

module _ (program : Program) (layouts : Layouts) (s : State) (good : IsGoodState program layouts s) (name key : List ℕ) where
  pub find-there : SomeStep (NextFind program s name key)
  find-there = at (cache_of program name) refl
    where
      worth : (place k : ℕ) (cache : Cache) (pairs : List (ℕ × ℕ)) → IsCacheAt program s name place cache pairs → IsMember s key cache.key k → (v : Option ℕ) → value_of_key k pairs ≡ v → SomeStep (NextFind program s name key)
      worth place k cache pairs c m None e = (_, _, NextFind.finds_none c m e)
      worth place k cache pairs c m (Some v) e = (_, _, NextFind.finds c m e)

      of : (place : ℕ) (cache : Cache) (pairs : List (ℕ × ℕ)) → IsCacheAt program s name place cache pairs → ((id : ℕ) × IsMember s key cache.key id) ⊎ ((why : Why) × RefusesMember s key cache.key why) → SomeStep (NextFind program s name key)
      of place cache pairs c (inl (k, m)) = worth place k cache pairs c m (value_of_key k pairs) refl
      of place cache pairs c (inr (why, r)) = (_, _, NextFind.key_refused c r)

      at : (found : Option ℕ) → cache_of program name ≡ found → SomeStep (NextFind program s name key)
      at None e = (_, _, NextFind.no_cache e)
      at (Some place) e = let c = cache-there program layouts s good name place e in of place c.0 c.1 c.2 (member-or-refused s key c.0.key)

  module _ (value : List ℕ) where
    put-worth : (place k v : ℕ) (cache : Cache) (pairs : List (ℕ × ℕ)) → IsCacheAt program s name place cache pairs → IsMember s key cache.key k → IsMember s value cache.value v
        → (old : Option ℕ) → value_of_key k pairs ≡ old → (pairs_in s.heap.graph.pairs < MAX_PAIRS) ⊎ (MAX_PAIRS ≤ pairs_in s.heap.graph.pairs) → SomeStep (NextPut program s name key value)
    put-worth place k v cache pairs c m n (Some old) e room = (_, _, NextPut.replaces c m n e)
    put-worth place k v cache pairs c m n None e (inl lt) = (_, _, NextPut.adds c m n e lt)
    put-worth place k v cache pairs c m n None e (inr le) = (_, _, NextPut.too_large c m n e le)

    put-at : (place : ℕ) (cache : Cache) (pairs : List (ℕ × ℕ)) → IsCacheAt program s name place cache pairs → ((id : ℕ) × IsMember s key cache.key id) ⊎ ((why : Why) × RefusesMember s key cache.key why)
        → ((id : ℕ) × IsMember s value cache.value id) ⊎ ((why : Why) × RefusesMember s value cache.value why) → SomeStep (NextPut program s name key value)
    put-at place cache pairs c (inr (why, r)) value_is = (_, _, NextPut.key_refused c r)
    put-at place cache pairs c (inl (k, m)) (inr (why, r)) = (_, _, NextPut.value_refused c m r)
    put-at place cache pairs c (inl (k, m)) (inl (v, n)) = put-worth place k v cache pairs c m n (value_of_key k pairs) refl (cases_lt (pairs_in s.heap.graph.pairs) MAX_PAIRS)

    pub put-there : SomeStep (NextPut program s name key value)
    put-there = at (cache_of program name) refl
      where
        at : (found : Option ℕ) → cache_of program name ≡ found → SomeStep (NextPut program s name key value)
        at None e = (_, _, NextPut.no_cache e)
        at (Some place) e = let c = cache-there program layouts s good name place e in put-at place c.0 c.1 c.2 (member-or-refused s key c.0.key) (member-or-refused s value c.0.value)
