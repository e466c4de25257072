-- A good state stays good where a pair is put.
use Rattle.std.proofs.Common.{◌≡◌, ℕ, zero, suc, ◌+◌, ◌<◌, ◌≤◌, Bool, true, false, cond, ◌||◌, List, [], ◌∷◌, ◌++◌, length, map, refl, ap, sym, subst, ◌∙◌, arith, Some}
use Rattle.std.specs.Prelude.{◌==◌, ◌≢◌, All, AllPairs, find, option_map, slice_get, slice_set}
use Rattle.std.specs.List.{AllZip, list_any}
use Rattle.std.proofs.lemmas.Bool.{eqb-true, eqb-false}
use Rattle.std.proofs.lemmas.List.{length_push}
use Rattle.std.proofs.lemmas.List.Elements.{All-nil, All-cons, All-head, All-tail, All-push, All-weaker}
use Rattle.std.proofs.lemmas.List.Kept.{AllPairs-cons}
use Rattle.std.proofs.lemmas.List.Quantifiers.{all_pairs_push}
use Rattle.std.proofs.lemmas.List.Sums.{sum_by-cons}
use Rattle.gt_types.specs.declared.program.Cache.{Cache}
use Rattle.gt_types.specs.declared.program.Program.{Program}
use Rattle.gt_layout.specs.declared.planes.Layouts.{Layouts}
use Rattle.gt_graph.specs.Objects.{Object, Graph, pairs_in}
use Rattle.gt_graph.specs.Good.{MAX_PAIRS, IsObject, IsSingle, ArePairsOf}
use Rattle.gt_next.specs.declared.answer.Answer.{Answer}
use Rattle.gt_next.specs.States.{State, IsGoodState}
use Rattle.gt_next.specs.Caching.{value_of_key, paired, with_pair, with_pairs, IsMember, IsCacheAt, NextPut, NextFind}

-- ---- lists

pub zip-at : {A B : Type 0} (R : A → B → Type 0) (xs : List A) (ys : List B) (i : ℕ) (x : A) (y : B) → AllZip R xs ys → slice_get xs i ≡ Some x → slice_get ys i ≡ Some y → R x y
zip-at R [] [] i x y h a b = absurd (cc)
zip-at R [] (z ∷ ys) i x y h a b = absurd h
zip-at R (w ∷ xs) [] i x y h a b = absurd h
zip-at R (w ∷ xs) (z ∷ ys) zero x y h a b = let first : w ≡ x = cc in let second : z ≡ y = cc in subst (λ u. R u y) first (subst (λ v. R w v) second h.0)
zip-at R (w ∷ xs) (z ∷ ys) (suc i) x y h a b = zip-at R xs ys i x y h.1 a b

zip-set : {A B : Type 0} (R : A → B → Type 0) (xs : List A) (ys : List B) (i : ℕ) (x : A) (y : B) → AllZip R xs ys → slice_get xs i ≡ Some x → R x y → AllZip R xs (slice_set ys i y)
zip-set R [] [] i x y h a r = absurd (cc)
zip-set R [] (z ∷ ys) i x y h a r = absurd h
zip-set R (w ∷ xs) [] i x y h a r = absurd h
zip-set R (w ∷ xs) (z ∷ ys) zero x y h a r = let first : w ≡ x = cc in (subst (λ u. R u y) (sym first) r, h.1)
zip-set R (w ∷ xs) (z ∷ ys) (suc i) x y h a r = (h.0, zip-set R xs ys i x y h.1 a r)

-- how many pairs there are where one list of them is another
pairs-set : (caches : List (List (ℕ × ℕ))) (i : ℕ) (old new : List (ℕ × ℕ)) → slice_get caches i ≡ Some old → pairs_in (slice_set caches i new) + length old ≡ pairs_in caches + length new
pairs-set [] i old new e = absurd (cc)
pairs-set (c ∷ cs) zero old new e =
    let same : c ≡ old = cc in
    let long = ap (λ x. length x) same in
    let a = sum_by-cons (λ x. x) (length new) (map (λ pairs. length pairs) cs) in
    let b = sum_by-cons (λ x. x) (length c) (map (λ pairs. length pairs) cs) in
    omega (arith, long, a, b)
pairs-set (c ∷ cs) (suc i) old new e =
    let rest = pairs-set cs i old new e in
    let a = sum_by-cons (λ x. x) (length c) (map (λ pairs. length pairs) (slice_set cs i new)) in
    let b = sum_by-cons (λ x. x) (length c) (map (λ pairs. length pairs) cs) in
    omega (arith, rest, a, b)

-- ---- one pair

-- an old pair keeps its key
pair-key : (key value : ℕ) (pair : ℕ × ℕ) → (paired key value pair).0 ≡ pair.0
pair-key key value pair = go (pair.0 == key) refl
  where
    go : (b : Bool) → (pair.0 == key) ≡ b → (cond b (key, value) pair).0 ≡ pair.0
    go true e = sym (eqb-true pair.0 key e)
    go false e = refl

abbrev HasOtherKey : ℕ × ℕ → ℕ × ℕ → Type 0
HasOtherKey pair other = pair.0 ≢ other.0

pairs-head : (x : ℕ × ℕ) (xs : List (ℕ × ℕ)) → AllPairs HasOtherKey (x ∷ xs) → All (HasOtherKey x) xs
pairs-head x xs h k d lt = h 0 (suc k) d (omega arith) (omega (arith, lt))

pairs-tail : (x : ℕ × ℕ) (xs : List (ℕ × ℕ)) → AllPairs HasOtherKey (x ∷ xs) → AllPairs HasOtherKey xs
pairs-tail x xs h i j d lt within = h (suc i) (suc j) d (omega (arith, lt)) (omega (arith, within))

module _ (key value : ℕ) where
  other-keys : (x : ℕ × ℕ) (xs : List (ℕ × ℕ)) → All (HasOtherKey x) xs → All (HasOtherKey (paired key value x)) (map (paired key value) xs)
  other-keys x [] h = All-nil (HasOtherKey (paired key value x))
  other-keys x (y ∷ ys) h =
      All-cons (HasOtherKey (paired key value x)) (paired key value y) (map (paired key value) ys)
      (λ e. All-head (HasOtherKey x) y ys h (sym (pair-key key value x) ∙ e ∙ pair-key key value y)) (other-keys x ys (All-tail (HasOtherKey x) y ys h))

  map-distinct : (xs : List (ℕ × ℕ)) → AllPairs HasOtherKey xs → AllPairs HasOtherKey (map (paired key value) xs)
  map-distinct [] h = λ i j d lt within. absurd (omega (arith, within))
  map-distinct (x ∷ xs) h = AllPairs-cons HasOtherKey (paired key value x) (map (paired key value) xs) (other-keys x xs (pairs-head x xs h)) (map-distinct xs (pairs-tail x xs h))

  map-long : (xs : List (ℕ × ℕ)) → length (map (paired key value) xs) ≡ length xs
  map-long [] = refl
  map-long (x ∷ xs) = ap suc (map-long xs)

  map-all : (P : ℕ × ℕ → Type 0) → P (key, value) → (xs : List (ℕ × ℕ)) → All P xs → All P (map (paired key value) xs)
  map-all P p [] h = All-nil P
  map-all P p (x ∷ xs) h = All-cons P (paired key value x) (map (paired key value) xs) (go (x.0 == key)) (map-all P p xs (All-tail P x xs h))
    where
      go : (b : Bool) → P (cond b (key, value) x)
      go true = p
      go false = All-head P x xs h

-- where no pair has the key
none-has : (key : ℕ) (xs : List (ℕ × ℕ)) → list_any (λ pair. pair.0 == key) xs ≡ false → All (λ pair. pair.0 ≢ key) xs
none-has key [] e = All-nil (λ pair. pair.0 ≢ key)
none-has key (x ∷ xs) e = go (λ n. none-has key xs n) (x.0 == key) refl e
  where
    go : (list_any (λ pair. pair.0 == key) xs ≡ false → All (λ pair. pair.0 ≢ key) xs) → (b : Bool) → (x.0 == key) ≡ b → (b || list_any (λ pair. pair.0 == key) xs) ≡ false → All (λ pair. pair.0 ≢ key) (x ∷ xs)
    go rest true h n = absurd (cc)
    go rest false h n = All-cons (λ pair. pair.0 ≢ key) x xs (eqb-false x.0 key h) (rest n)

-- a value of a key is that of a pair with this key
some-has : (key v : ℕ) (xs : List (ℕ × ℕ)) → list_any (λ pair. pair.0 == key) xs ≡ false → value_of_key key xs ≡ Some v → ⊥
some-has key v [] e h = cc
some-has key v (x ∷ xs) e h = go (λ n m. some-has key v xs n m) (x.0 == key) e h
  where
    go : (list_any (λ pair. pair.0 == key) xs ≡ false → value_of_key key xs ≡ Some v → ⊥) → (b : Bool) → (b || list_any (λ pair. pair.0 == key) xs) ≡ false
        → option_map (λ pair. pair.1) (cond b (Some x) (find (λ pair. pair.0 == key) xs)) ≡ Some v → ⊥
    go rest true n m = cc
    go rest false n m = rest n m

module _ (objects : List Object) (cache : Cache) (key value : ℕ) (single : IsSingle objects key cache.key) (worth : IsSingle objects value cache.value) (pairs : List (ℕ × ℕ)) (good : ArePairsOf objects cache pairs) where
  abbrev IsPair : ℕ × ℕ → Type 0
  IsPair pair = IsSingle objects pair.0 cache.key × IsSingle objects pair.1 cache.value

  put-fits : (b : Bool) → list_any (λ pair. pair.0 == key) pairs ≡ b → ArePairsOf objects cache (cond b (map (paired key value) pairs) (pairs ++ (key, value) ∷ []))
  put-fits true e = record { singles = map-all key value IsPair (single, worth) pairs good.singles; distinct = map-distinct key value pairs good.distinct }
  put-fits false e = record {
    singles = All-push IsPair pairs (key, value) good.singles (single, worth);
    distinct = all_pairs_push HasOtherKey pairs (key, value) good.distinct (none-has key pairs e);
  }

put-long : (key value : ℕ) (pairs : List (ℕ × ℕ)) (b : Bool) → length (cond b (map (paired key value) pairs) (pairs ++ (key, value) ∷ [])) ≤ length pairs + 1
put-long key value pairs true = let long = map-long key value pairs in omega (arith, long)
put-long key value pairs false = let long = length_push pairs (key, value) in omega (arith, long)

put-same : (key value v : ℕ) (pairs : List (ℕ × ℕ)) → value_of_key key pairs ≡ Some v → (b : Bool) → list_any (λ pair. pair.0 == key) pairs ≡ b
    → length (cond b (map (paired key value) pairs) (pairs ++ (key, value) ∷ [])) ≡ length pairs
put-same key value v pairs e true h = map-long key value pairs
put-same key value v pairs e false h = absurd (some-has key v pairs h e)

-- ---- put and find

module _ (program : Program) (layouts : Layouts) (s : State) (good : IsGoodState program layouts s) where
  -- the same state with other pairs in one cache
  pairs-good : (place : ℕ) (cache : Cache) (new : List (ℕ × ℕ)) → slice_get program.caches place ≡ Some cache → ArePairsOf s.heap.graph.objects cache new → pairs_in (slice_set s.heap.graph.pairs place new) ≤ MAX_PAIRS
      → IsGoodState program layouts (with_pairs s place new)
  pairs-good place cache new declared fits few =
      let g = good.heap.graph in
      let after : Graph = record s.heap.graph { pairs = slice_set s.heap.graph.pairs place new } in
      record {
        heap = record {
          graph = record {
            distinct = g.distinct;
            objects = All-weaker (IsObject program s.heap.graph) (IsObject program after) (λ o is. record { may_hold = is.may_hold; single_tail = is.single_tail; no_room = is.no_room; fits = is.fits }) s.heap.graph.objects g.objects;
            statics = g.statics;
            pairs = zip-set (ArePairsOf s.heap.graph.objects) program.caches s.heap.graph.pairs place cache new g.pairs declared fits;
            few_pairs = few;
          };
          places = good.heap.places;
        };
        variables = good.variables;
        few_variables = good.few_variables;
        pages = good.pages;
        min_expand = good.min_expand;
        min_heapsize = good.min_heapsize;
        last = good.last;
      }

  module _ {name key value : List ℕ} {place k v : ℕ} {cache : Cache} {pairs : List (ℕ × ℕ)} (at : IsCacheAt program s name place cache pairs) (m : IsMember s key cache.key k) (n : IsMember s value cache.value v) where
    fits-there : ArePairsOf s.heap.graph.objects cache (with_pair k v pairs)
    fits-there =
        put-fits s.heap.graph.objects cache k v m.single n.single pairs (zip-at (ArePairsOf s.heap.graph.objects) program.caches s.heap.graph.pairs place cache pairs good.heap.graph.pairs at.declared at.held)
        (list_any (λ pair. pair.0 == k) pairs) refl

    replaced-good : (old : ℕ) → value_of_key k pairs ≡ Some old → IsGoodState program layouts (with_pairs s place (with_pair k v pairs))
    replaced-good old e =
        let count = pairs-set s.heap.graph.pairs place pairs (with_pair k v pairs) at.held in
        let long = put-same k v old pairs e (list_any (λ pair. pair.0 == k) pairs) refl in
        let few = good.heap.graph.few_pairs in
        pairs-good place cache (with_pair k v pairs) at.declared fits-there (omega (arith, count, long, few))

    added-good : pairs_in s.heap.graph.pairs < MAX_PAIRS → IsGoodState program layouts (with_pairs s place (with_pair k v pairs))
    added-good lt =
        let count = pairs-set s.heap.graph.pairs place pairs (with_pair k v pairs) at.held in
        let long = put-long k v pairs (list_any (λ pair. pair.0 == k) pairs) in
        pairs-good place cache (with_pair k v pairs) at.declared fits-there (omega (arith, count, long, lt))

  pub put-good : (name key value : List ℕ) (t : State) (a : Answer) → NextPut program s name key value a t → IsGoodState program layouts t
  put-good name key value t a (NextPut.no_cache none) = good
  put-good name key value t a (NextPut.key_refused at r) = good
  put-good name key value t a (NextPut.value_refused at m r) = good
  put-good name key value t a (NextPut.too_large at m n e le) = good
  put-good name key value t a (NextPut.replaces {old} at m n e) = replaced-good at m n old e
  put-good name key value t a (NextPut.adds at m n e lt) = added-good at m n lt

  pub find-good : (name key : List ℕ) (t : State) (a : Answer) → NextFind program s name key a t → IsGoodState program layouts t
  find-good name key t a (NextFind.no_cache none) = good
  find-good name key t a (NextFind.key_refused at r) = good
  find-good name key t a (NextFind.finds at m e) = good
  find-good name key t a (NextFind.finds_none at m e) = good
