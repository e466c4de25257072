-- Find has one answer and one next state, and so has put.
use Rattle.std.proofs.Common.{◌≡◌, ℕ, ◌<◌, ◌≤◌, List, refl, ap, sym, subst, ◌∙◌, arith, Option, Some, None}
use Rattle.std.specs.Prelude.{slice_get}
use Rattle.gt_types.specs.declared.types.TypeId.{TypeId}
use Rattle.gt_types.specs.declared.program.Cache.{Cache}
use Rattle.gt_types.specs.declared.program.Program.{Program}
use Rattle.gt_tree.proofs.PathBits.{some-same}
use Rattle.gt_graph.specs.Objects.{pairs_in}
use Rattle.gt_graph.specs.Places.{address_in}
use Rattle.gt_graph.specs.Good.{MAX_PAIRS, IsSingle}
use Rattle.gt_next.specs.declared.answer.Answer.{Answer}
use Rattle.gt_next.specs.declared.answer.Answer.TheVariants.{Done, Null, Ref, Refused}
use Rattle.gt_next.specs.declared.answer.Why.{Why}
use Rattle.gt_next.specs.declared.answer.Why.TheVariants.{TooLarge, NoCache}
use Rattle.gt_next.specs.States.{State, meaning}
use Rattle.gt_next.specs.Caching.{cache_of, value_of_key, with_pair, with_pairs, RefusesMember, IsMember, IsCacheAt, NextPut, NextFind}

-- ---- keys and values

module _ {s : State} {name : List ℕ} {type : TypeId} where
  member-same : (id other : ℕ) → IsMember s name type id → IsMember s name type other → other ≡ id
  member-same id other a b = some-same (meaning s.variables name) other id b.bound a.bound

  why-same : (why other : Why) → RefusesMember s name type why → RefusesMember s name type other → other ≡ why
  why-same why other (RefusesMember.unbound e) (RefusesMember.unbound h) = refl
  why-same why other (RefusesMember.unbound e) (RefusesMember.other h n) = absurd (cc)
  why-same why other (RefusesMember.other e n) (RefusesMember.unbound h) = absurd (cc)
  why-same why other (RefusesMember.other e n) (RefusesMember.other h m) = refl

  no-member : (id : ℕ) (why : Why) → IsMember s name type id → ¬ RefusesMember s name type why
  no-member id why m (RefusesMember.unbound e) = let bound = m.bound in cc
  no-member id why m (RefusesMember.other {id = j} e n) = n (subst (λ i. IsSingle s.heap.graph.objects i type) (some-same (meaning s.variables name) id j m.bound e) m.single)

-- ---- what an answer is worth

-- an answer and a next state are these
abbrev Is : Answer → State → Answer → State → Type 0
Is a t b u = (b ≡ a) × (u ≡ t)

module _ (program : Program) (s : State) (name : List ℕ) {place : ℕ} {cache : Cache} {pairs : List (ℕ × ℕ)} (at : IsCacheAt program s name place cache pairs) where
  module _ {i : ℕ} {c : Cache} {ps : List (ℕ × ℕ)} (other : IsCacheAt program s name i c ps) where
    same-at : i ≡ place
    same-at = some-same (cache_of program name) i place other.at at.at

    same-cache : c ≡ cache
    same-cache = some-same (slice_get program.caches place) c cache (subst (λ j. slice_get program.caches j ≡ Some c) same-at other.declared) at.declared

    same-pairs : ps ≡ pairs
    same-pairs = some-same (slice_get s.heap.graph.pairs place) ps pairs (subst (λ j. slice_get s.heap.graph.pairs j ≡ Some ps) same-at other.held) at.held

    refused-at : (var : List ℕ) (why : Why) → RefusesMember s var c.key why → RefusesMember s var cache.key why
    refused-at var why r = subst (λ x. RefusesMember s var x.key why) same-cache r

    member-at : (var : List ℕ) (id : ℕ) → IsMember s var c.key id → IsMember s var cache.key id
    member-at var id m = subst (λ x. IsMember s var x.key id) same-cache m

    value-refused-at : (var : List ℕ) (why : Why) → RefusesMember s var c.value why → RefusesMember s var cache.value why
    value-refused-at var why r = subst (λ x. RefusesMember s var x.value why) same-cache r

    value-at : (var : List ℕ) (id : ℕ) → IsMember s var c.value id → IsMember s var cache.value id
    value-at var id m = subst (λ x. IsMember s var x.value id) same-cache m

    -- what a key is worth among the pairs
    key-at : (k j : ℕ) (found : Option ℕ) → j ≡ k → value_of_key j ps ≡ found → value_of_key k pairs ≡ found
    key-at k j found same e = subst (λ n. value_of_key n pairs ≡ found) same (subst (λ x. value_of_key j x ≡ found) same-pairs e)

  no-cache : cache_of program name ≡ None → ⊥
  no-cache none = let there = at.at in cc

  -- ---- find

  find-refused : (key : List ℕ) (why : Why) (b : Answer) (u : State) → RefusesMember s key cache.key why → NextFind program s name key b u → Is (Refused why) s b u
  find-refused key why b u r (NextFind.no_cache none) = absurd (no-cache none)
  find-refused key why b u r (NextFind.key_refused {why = w} c q) = (ap Refused (why-same why w r (refused-at c key w q)), refl)
  find-refused key why b u r (NextFind.finds {k = j} c m e) = absurd (no-member j why (member-at c key j m) r)
  find-refused key why b u r (NextFind.finds_none {k = j} c m e) = absurd (no-member j why (member-at c key j m) r)

  find-some : (key : List ℕ) (k v : ℕ) (b : Answer) (u : State) → IsMember s key cache.key k → value_of_key k pairs ≡ Some v → NextFind program s name key b u → Is (Ref (address_in s.heap.places.placed v)) s b u
  find-some key k v b u m e (NextFind.no_cache none) = absurd (no-cache none)
  find-some key k v b u m e (NextFind.key_refused {why = w} c q) = absurd (no-member k w m (refused-at c key w q))
  find-some key k v b u m e (NextFind.finds {k = j} {v = w} c n h) =
      let same = some-same (value_of_key k pairs) w v (key-at c k j (Some w) (member-same k j m (member-at c key j n)) h) e in
      (ap (λ x. Ref (address_in s.heap.places.placed x)) same, refl)
  find-some key k v b u m e (NextFind.finds_none {k = j} c n h) = let none = key-at c k j None (member-same k j m (member-at c key j n)) h in absurd (cc)

  find-none : (key : List ℕ) (k : ℕ) (b : Answer) (u : State) → IsMember s key cache.key k → value_of_key k pairs ≡ None → NextFind program s name key b u → Is Null s b u
  find-none key k b u m e (NextFind.no_cache none) = absurd (no-cache none)
  find-none key k b u m e (NextFind.key_refused {why = w} c q) = absurd (no-member k w m (refused-at c key w q))
  find-none key k b u m e (NextFind.finds {k = j} {v = w} c n h) = let some = key-at c k j (Some w) (member-same k j m (member-at c key j n)) h in absurd (cc)
  find-none key k b u m e (NextFind.finds_none c n h) = (refl, refl)

  -- ---- put

  put-refused : (key value : List ℕ) (why : Why) (b : Answer) (u : State) → RefusesMember s key cache.key why → NextPut program s name key value b u → Is (Refused why) s b u
  put-refused key value why b u r (NextPut.no_cache none) = absurd (no-cache none)
  put-refused key value why b u r (NextPut.key_refused {why = w} c q) = (ap Refused (why-same why w r (refused-at c key w q)), refl)
  put-refused key value why b u r (NextPut.value_refused {k = j} c m q) = absurd (no-member j why (member-at c key j m) r)
  put-refused key value why b u r (NextPut.too_large {k = j} c m n e le) = absurd (no-member j why (member-at c key j m) r)
  put-refused key value why b u r (NextPut.replaces {k = j} c m n e) = absurd (no-member j why (member-at c key j m) r)
  put-refused key value why b u r (NextPut.adds {k = j} c m n e lt) = absurd (no-member j why (member-at c key j m) r)

  module _ (key value : List ℕ) (k : ℕ) (m : IsMember s key cache.key k) where
    put-value-refused : (why : Why) (b : Answer) (u : State) → RefusesMember s value cache.value why → NextPut program s name key value b u → Is (Refused why) s b u
    put-value-refused why b u r (NextPut.no_cache none) = absurd (no-cache none)
    put-value-refused why b u r (NextPut.key_refused {why = w} c q) = absurd (no-member k w m (refused-at c key w q))
    put-value-refused why b u r (NextPut.value_refused {why = w} c n q) = (ap Refused (why-same why w r (value-refused-at c value w q)), refl)
    put-value-refused why b u r (NextPut.too_large {v = x} c n o e le) = absurd (no-member x why (value-at c value x o) r)
    put-value-refused why b u r (NextPut.replaces {v = x} c n o e) = absurd (no-member x why (value-at c value x o) r)
    put-value-refused why b u r (NextPut.adds {v = x} c n o e lt) = absurd (no-member x why (value-at c value x o) r)

    module _ (v : ℕ) (n : IsMember s value cache.value v) where
      same-put : {i : ℕ} {c : Cache} {ps : List (ℕ × ℕ)} (other : IsCacheAt program s name i c ps) (j x : ℕ) → j ≡ k → x ≡ v → with_pairs s i (with_pair j x ps) ≡ with_pairs s place (with_pair k v pairs)
      same-put {i} {c} {ps} other j x e h =
          ap (λ p. with_pairs s p (with_pair j x ps)) (same-at other) ∙ ap (λ y. with_pairs s place (with_pair j x y)) (same-pairs other)
          ∙ ap (λ y. with_pairs s place (with_pair y x pairs)) e ∙ ap (λ y. with_pairs s place (with_pair k y pairs)) h

      put-too_large : (b : Answer) (u : State) → value_of_key k pairs ≡ None → MAX_PAIRS ≤ pairs_in s.heap.graph.pairs → NextPut program s name key value b u → Is (Refused TooLarge) s b u
      put-too_large b u e le (NextPut.no_cache none) = absurd (no-cache none)
      put-too_large b u e le (NextPut.key_refused {why = w} c q) = absurd (no-member k w m (refused-at c key w q))
      put-too_large b u e le (NextPut.value_refused {why = w} c o q) = absurd (no-member v w n (value-refused-at c value w q))
      put-too_large b u e le (NextPut.too_large c o p h more) = (refl, refl)
      put-too_large b u e le (NextPut.replaces {k = j} {old = old} c o p h) = let some = key-at c k j (Some old) (member-same k j m (member-at c key j o)) h in absurd (cc)
      put-too_large b u e le (NextPut.adds c o p h lt) = absurd (omega (arith, le, lt))

      put-replaces : (old : ℕ) (b : Answer) (u : State) → value_of_key k pairs ≡ Some old → NextPut program s name key value b u → Is Done (with_pairs s place (with_pair k v pairs)) b u
      put-replaces old b u e (NextPut.no_cache none) = absurd (no-cache none)
      put-replaces old b u e (NextPut.key_refused {why = w} c q) = absurd (no-member k w m (refused-at c key w q))
      put-replaces old b u e (NextPut.value_refused {why = w} c o q) = absurd (no-member v w n (value-refused-at c value w q))
      put-replaces old b u e (NextPut.too_large {k = j} c o p h le) = let none = key-at c k j None (member-same k j m (member-at c key j o)) h in absurd (cc)
      put-replaces old b u e (NextPut.replaces {k = j} {v = x} c o p h) = (refl, same-put c j x (member-same k j m (member-at c key j o)) (member-same v x n (value-at c value x p)))
      put-replaces old b u e (NextPut.adds {k = j} c o p h lt) = let none = key-at c k j None (member-same k j m (member-at c key j o)) h in absurd (cc)

      put-adds : (b : Answer) (u : State) → value_of_key k pairs ≡ None → pairs_in s.heap.graph.pairs < MAX_PAIRS → NextPut program s name key value b u → Is Done (with_pairs s place (with_pair k v pairs)) b u
      put-adds b u e lt (NextPut.no_cache none) = absurd (no-cache none)
      put-adds b u e lt (NextPut.key_refused {why = w} c q) = absurd (no-member k w m (refused-at c key w q))
      put-adds b u e lt (NextPut.value_refused {why = w} c o q) = absurd (no-member v w n (value-refused-at c value w q))
      put-adds b u e lt (NextPut.too_large c o p h le) = absurd (omega (arith, le, lt))
      put-adds b u e lt (NextPut.replaces {k = j} {old = old} c o p h) = let some = key-at c k j (Some old) (member-same k j m (member-at c key j o)) h in absurd (cc)
      put-adds b u e lt (NextPut.adds {k = j} {v = x} c o p h more) = (refl, same-put c j x (member-same k j m (member-at c key j o)) (member-same v x n (value-at c value x p)))

turned : {a b : Answer} {t u : State} → Is a t b u → (a ≡ b) × (t ≡ u)
turned (e, h) = (sym e, sym h)

find-no_cache : (program : Program) (s u : State) (name key : List ℕ) (b : Answer) → cache_of program name ≡ None → NextFind program s name key b u → (Refused NoCache ≡ b) × (s ≡ u)
find-no_cache program s u name key b none (NextFind.no_cache e) = (refl, refl)
find-no_cache program s u name key b none (NextFind.key_refused c q) = absurd (no-cache program s name c none)
find-no_cache program s u name key b none (NextFind.finds c m e) = absurd (no-cache program s name c none)
find-no_cache program s u name key b none (NextFind.finds_none c m e) = absurd (no-cache program s name c none)

pub find-one : (program : Program) (s t u : State) (name key : List ℕ) (a b : Answer) → NextFind program s name key a t → NextFind program s name key b u → (a ≡ b) × (t ≡ u)
find-one program s t u name key a b (NextFind.no_cache none) next = find-no_cache program s u name key b none next
find-one program s t u name key a b (NextFind.key_refused {why} c r) next = turned (find-refused program s name c key why b u r next)
find-one program s t u name key a b (NextFind.finds {k} {v} c m e) next = turned (find-some program s name c key k v b u m e next)
find-one program s t u name key a b (NextFind.finds_none {k} c m e) next = turned (find-none program s name c key k b u m e next)

put-no_cache : (program : Program) (s u : State) (name key value : List ℕ) (b : Answer) → cache_of program name ≡ None → NextPut program s name key value b u → (Refused NoCache ≡ b) × (s ≡ u)
put-no_cache program s u name key value b none (NextPut.no_cache e) = (refl, refl)
put-no_cache program s u name key value b none (NextPut.key_refused c q) = absurd (no-cache program s name c none)
put-no_cache program s u name key value b none (NextPut.value_refused c m q) = absurd (no-cache program s name c none)
put-no_cache program s u name key value b none (NextPut.too_large c m n e le) = absurd (no-cache program s name c none)
put-no_cache program s u name key value b none (NextPut.replaces c m n e) = absurd (no-cache program s name c none)
put-no_cache program s u name key value b none (NextPut.adds c m n e lt) = absurd (no-cache program s name c none)

pub put-one : (program : Program) (s t u : State) (name key value : List ℕ) (a b : Answer) → NextPut program s name key value a t → NextPut program s name key value b u → (a ≡ b) × (t ≡ u)
put-one program s t u name key value a b (NextPut.no_cache none) next = put-no_cache program s u name key value b none next
put-one program s t u name key value a b (NextPut.key_refused {why} c r) next = turned (put-refused program s name c key value why b u r next)
put-one program s t u name key value a b (NextPut.value_refused {k} {why} c m r) next = turned (put-value-refused program s name c key value k m why b u r next)
put-one program s t u name key value a b (NextPut.too_large {k} {v} c m n e le) next = turned (put-too_large program s name c key value k m v n b u e le next)
put-one program s t u name key value a b (NextPut.replaces {k} {v} {old} c m n e) next = turned (put-replaces program s name c key value k m v n old b u e next)
put-one program s t u name key value a b (NextPut.adds {k} {v} c m n e lt) next = turned (put-adds program s name c key value k m v n b u e lt next)
