-- Pairs of items, each with each later one.
use Rattle.std.proofs.Common.{◌≡◌, ◌≢◌, ◌<◌, ◌≤◌, ◌+◌, ◌-◌, ℕ, zero, suc, Bool, true, false, List, [], ◌∷◌, length, get_or, take, drop, map, Some, Vec, Global, refl, ap, sym, subst, ◌∙◌, arith}
use Rattle.std.specs.Prelude.{All, AllPairs, option_map}
use Rattle.std.specs.List.{AllZip}
use Rattle.std.proofs.lemmas.List.{take_all, length-map}
use Rattle.std.specs.Bool.{Decides}
use Rattle.std.proofs.lemmas.List.Elements.{All-map, All-weaker, All-cons, All-head, All-tail}
use Rattle.std.proofs.lemmas.List.Kept.{AllPairs-cons}
use Rattle.std.proofs.lemmas.Slice.Zip.{AllZip-long}
use Rattle.gt_types.specs.declared.types.TypeId.{TypeId}
use Rattle.gt_types.specs.declared.program.Cache.{Cache}
use Rattle.gt_tree.specs.Blocks.{Nodes, Block}
use Rattle.gt_value.specs.Names.{kind_of}
use Rattle.gt_graph.specs.Objects as typed
use Rattle.gt_graph.specs.Good.{IsSingle, ArePairsOf}
use Rattle.heap_table.specs.declared.graphs.Object.{Object}
use Rattle.heap_table.specs.declared.graphs.Pair.{Pair}
use Rattle.heap_table.specs.Graphs.{object_of, objects_of, blocks_in, pair_of, pairs_of, IsPairOf}

-- the first of a list and each later one
pub pairs_head : {X : Type 0} (R : X → X → Type 0) (x : X) (xs : List X) → AllPairs R (x ∷ xs) → All (R x) xs
pairs_head R x xs pairs k d low = pairs 0 (suc k) d (omega arith) (omega (arith, low))

pub pairs_tail : {X : Type 0} (R : X → X → Type 0) (x : X) (xs : List X) → AllPairs R (x ∷ xs) → AllPairs R xs
pairs_tail R x xs pairs i j d low high = pairs (suc i) (suc j) d (omega (arith, low)) (omega (arith, high))

-- what holds of what elements are
pub unmapped : {X Y : Type 0} (P : X → Type 0) (f : Y → X) (ys : List Y) → All P (map f ys) → All (λ y. P (f y)) ys
unmapped P f [] all k d low = absurd (omega (arith, low))
unmapped P f (y ∷ ys) all zero d low = all 0 (f d) (omega arith)
unmapped P f (y ∷ ys) all (suc k) d low = unmapped P f ys (λ i e less. all (suc i) e (omega (arith, less))) k d (omega (arith, low))

module _ {X Y : Type 0} (R : X → X → Type 0) (f : Y → X) where
  pub pairs_unmapped : (ys : List Y) → AllPairs R (map f ys) → AllPairs (λ y z. R (f y) (f z)) ys
  pairs_unmapped [] pairs = λ i j d low high. absurd (omega (arith, high))
  pairs_unmapped (y ∷ ys) pairs =
      AllPairs-cons (λ y z. R (f y) (f z)) y ys (unmapped (R (f y)) f ys (pairs_head R (f y) (map f ys) pairs)) (pairs_unmapped ys (pairs_tail R (f y) (map f ys) pairs))

  pub pairs_mapped : (ys : List Y) → AllPairs (λ y z. R (f y) (f z)) ys → AllPairs R (map f ys)
  pairs_mapped [] pairs = λ i j d low high. absurd (omega (arith, high))
  pairs_mapped (y ∷ ys) pairs =
      AllPairs-cons R (f y) (map f ys) (All-map (R (f y)) f ys (pairs_head (λ y z. R (f y) (f z)) y ys pairs)) (pairs_mapped ys (pairs_tail (λ y z. R (f y) (f z)) y ys pairs))

-- ---- the first of a list, and the others

abbrev pub rest_of : {X : Type 0} → List X → List X
rest_of xs = take (length xs - 1) (drop 1 xs)

pub split : {X : Type 0} (xs : List X) (x : X) → 1 ≤ length xs → x ≡ get_or xs 0 x → xs ≡ x ∷ rest_of xs
split [] x long is = absurd (omega (arith, long))
split (y ∷ ys) x long is = ap (λ z. z ∷ ys) (sym is) ∙ ap (λ zs. x ∷ zs) (sym (take_all (length (y ∷ ys) - 1) ys (omega arith)))

pub first_is : {X : Type 0} (xs : List X) (d : X) → 1 ≤ length xs → get_or xs 0 d ≡ get_or xs 0 (get_or xs 0 d)
first_is [] d long = absurd (omega (arith, long))
first_is (y ∷ ys) d long = refl

module _ {X : Type 0} (R : X → X → Type 0) (xs : List X) (x : X) (long : 1 ≤ length xs) (is : x ≡ get_or xs 0 x) (r : Bool) where
  -- the first differs from each later one: so all differ if these do
  pub first_differs : All (R x) (rest_of xs) → Decides r (AllPairs R (rest_of xs)) → Decides r (AllPairs R xs)
  first_differs here d =
      let whole = split xs x long is in (
        (λ h. subst (AllPairs R) (sym whole) (AllPairs-cons R x (rest_of xs) here (d.0 h))),
        (λ pairs. d.1 (pairs_tail R x (rest_of xs) (subst (AllPairs R) whole pairs))),
      )

  pub first_does_not : r ≡ false → Decides r (All (R x) (rest_of xs)) → Decides r (AllPairs R xs)
  first_does_not off d =
      let whole = split xs x long is in (
        (λ h. absurd (cc)),
        (λ pairs. d.1 (pairs_head R x (rest_of xs) (subst (AllPairs R) whole pairs))),
      )

module _ {X : Type 0} (P : X → Type 0) (xs : List X) (x : X) (long : 1 ≤ length xs) (is : x ≡ get_or xs 0 x) (r : Bool) where
  pub first_holds : P x → Decides r (All P (rest_of xs)) → Decides r (All P xs)
  first_holds here d =
      let whole = split xs x long is in (
        (λ h. subst (All P) (sym whole) (All-cons P x (rest_of xs) here (d.0 h))),
        (λ all. d.1 (All-tail P x (rest_of xs) (subst (All P) whole all))),
      )

  pub first_fails : r ≡ false → Decides r (P x) → Decides r (All P xs)
  first_fails off d =
      let whole = split xs x long is in (
        (λ h. absurd (cc)),
        (λ all. d.1 (All-head P x (rest_of xs) (subst (All P) whole all))),
      )

-- ---- pairs of caches

module _ (objects : List typed.Object) (cache : Cache) (pairs : List Pair) where
  abbrev Singles : (ℕ × ℕ) → Type 0
  Singles pair = IsSingle objects pair.0 cache.key × IsSingle objects pair.1 cache.value

  abbrev Differ : (ℕ × ℕ) → (ℕ × ℕ) → Type 0
  Differ pair other = pair.0 ≢ other.0

  are_pairs : All (IsPairOf objects cache) pairs → AllPairs (λ (p q : Pair). p.key ≢ q.key) pairs → ArePairsOf objects cache (pairs_of pairs)
  are_pairs all distinct = record {
    singles = All-map Singles pair_of pairs (All-weaker (IsPairOf objects cache) (λ (p : Pair). Singles (pair_of p)) (λ p is. (is.key, is.value)) pairs all);
    distinct = pairs_mapped Differ pair_of pairs distinct;
  }

  all_are : ArePairsOf objects cache (pairs_of pairs) → All (IsPairOf objects cache) pairs
  all_are are = All-weaker (λ (p : Pair). Singles (pair_of p)) (IsPairOf objects cache) (λ p is. record { key = is.0; value = is.1 }) pairs (unmapped Singles pair_of pairs are.singles)

  pub keys_decide : (r : Bool) → All (IsPairOf objects cache) pairs → Decides r (AllPairs (λ (p q : Pair). p.key ≢ q.key) pairs) → Decides r (ArePairsOf objects cache (pairs_of pairs))
  keys_decide r all d = ((λ h. are_pairs all (d.0 h)), (λ are. d.1 (pairs_unmapped Differ pair_of pairs are.distinct)))

  pub singles_decide : (r : Bool) → r ≡ false → Decides r (All (IsPairOf objects cache) pairs) → Decides r (ArePairsOf objects cache (pairs_of pairs))
  singles_decide r off d = ((λ h. absurd (cc)), (λ are. d.1 (all_are are)))

-- lists that are not as long are not alike place by place
pub uneven : (objects : List typed.Object) (caches : List Cache) (lists : List (Vec Pair Global)) → length caches ≢ length lists
    → Decides false (AllZip (ArePairsOf objects) caches (map (λ pairs. pairs_of pairs.items) lists))
uneven objects caches lists off = (
  (λ h. absurd (cc)),
  (λ zip. absurd (off (sym (sym (length-map lists (λ pairs. pairs_of pairs.items)) ∙ AllZip-long (ArePairsOf objects) caches (map (λ pairs. pairs_of pairs.items) lists) zip)))),
)

pub single : (objects : List Object) (id : ℕ) (o : Object) (node : TypeId) (r : Bool) → typed.object_of (objects_of objects) id ≡ Some (object_of o)
    → Decides r ((kind_of o.kind ≡ Nodes node) × (o.count ≡ 1)) → Decides r (IsSingle (objects_of objects) id node)
single objects id o node r h d =
    let at : blocks_in objects id ≡ Some (typed.block_of (object_of o)) = ap (option_map typed.block_of) h in (
      (λ yes. let both = d.0 yes in (typed.block_of (object_of o), at, both.0, both.1)),
      (λ is. let same : typed.block_of (object_of o) ≡ is.0 = (let e = is.1 in cc) in d.1 (ap (λ (b : Block). b.kind) same ∙ is.2, ap (λ (b : Block). b.count) same ∙ is.3)),
    )
