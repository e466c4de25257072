-- A name is of one thing at most, and an index finds it.
use Rattle.std.proofs.Common.{◌≡◌, ◌∙◌, ◌<◌, ℕ, suc, ◌+◌, ◌-◌, Bool, true, false, List, [], ◌∷◌, ◌++◌, length, map, get_or, Option, Some, None, refl, sym, ap, subst, arith}
use Rattle.std.specs.Prelude.{◌≢◌, AllPairs, Contains, nat_lt, option_map, slice_get}
use Rattle.std.specs.List.{position_from}
use Rattle.std.specs.Str.{bytes_eq}
use Rattle.std.proofs.lemmas.List.{get_or-map}
use Rattle.std.proofs.lemmas.Option.{none-some, slice_get-get_or, slice_get_within, get_or_from_slice_get, slice_get-map}
use Rattle.std.proofs.lemmas.Slice.Eq.{bytes_eq-Decides}
use Rattle.gt_types.specs.declared.types.TypeId.{TypeId}
use Rattle.gt_types.specs.declared.program.Structure.{Structure}
use Rattle.gt_types.specs.declared.program.Typedef.{Typedef}
use Rattle.gt_types.specs.declared.program.Program.{Program}
use Rattle.gt_types.specs.Contains.{HasStructure}
use Rattle.gt_types.specs.Settled.{Settled, global_names}
use Rattle.gt_tree.proofs.PathBits.{some-same, position-get, position-first}
use Rattle.gt_next.specs.Kinds.{IsWordOf}

-- ---- lists

-- where a list contains something
pub there : {X : Type 0} (xs : List X) (x : X) → Contains xs x → (k : ℕ) × (slice_get xs k ≡ Some x)
there xs x c = (c.0, slice_get-get_or xs c.0 x c.1 ∙ ap Some c.2)

pub here : {X : Type 0} (xs : List X) (k : ℕ) (x : X) → slice_get xs k ≡ Some x → Contains xs x
here xs k x at = (k, slice_get_within xs k x at, get_or_from_slice_get xs k x x at)

-- distinct names stand at one place each
one-place : (names : List (List ℕ)) (i j : ℕ) (a : List ℕ) → AllPairs ◌≢◌ names → slice_get names i ≡ Some a → slice_get names j ≡ Some a → i ≡ j
one-place names i j a pairs at other = go (nat_lt i j) refl (nat_lt j i) refl
  where
    meet : (k l : ℕ) → slice_get names k ≡ Some a → slice_get names l ≡ Some a → k < l → ⊥
    meet k l at other before =
        pairs k l a before (slice_get_within names l a other) (get_or_from_slice_get names k a a at ∙ sym (get_or_from_slice_get names l a a other))

    go : (b : Bool) → nat_lt i j ≡ b → (c : Bool) → nat_lt j i ≡ c → i ≡ j
    go true before c after = let less : i < j = (grind arith) in absurd (meet i j at other less)
    go false before true after = let less : j < i = (grind arith) in absurd (meet j i other at less)
    go false before false after = grind arith

after : {X : Type 0} (front xs : List X) (i : ℕ) → slice_get (front ++ xs) (length front + i) ≡ slice_get xs i
after {X} [] xs i = let e : length {A = X} [] + i ≡ i = omega arith in ap (slice_get xs) e
after (x ∷ front) xs i = let e : length (x ∷ front) + i ≡ suc (length front + i) = omega arith in ap (slice_get (x ∷ (front ++ xs))) e ∙ after front xs i

length-mapped : {X Y : Type 0} (f : X → Y) (xs : List X) → length (map f xs) ≡ length xs
length-mapped f [] = refl
length-mapped f (x ∷ xs) = ap (λ n. suc n) (length-mapped f xs)

-- names of things are distinct where the things are told apart by them
mapped-pairs : {X : Type 0} (called : X → List ℕ) (xs : List X) → AllPairs (λ x y. called x ≢ called y) xs → AllPairs ◌≢◌ (map called xs)
mapped-pairs {X} called [] pairs i j d before within = absurd (omega (arith, within))
mapped-pairs {X} called (x ∷ xs) pairs i j d before within =
    let short : j < length (x ∷ xs) = subst (λ n. j < n) (length-mapped called (x ∷ xs)) within in
    let shorter : i < length (x ∷ xs) = omega (arith, before, short) in
    subst (λ a. a ≢ get_or (map called (x ∷ xs)) j d) (sym (get_or-map called (x ∷ xs) i x d shorter))
    (subst (λ b. called (get_or (x ∷ xs) i x) ≢ b) (sym (get_or-map called (x ∷ xs) j x d short)) (pairs i j x before short))

same-id : (n m : TypeId) → n.0 ≡ m.0 → n ≡ m
same-id n m same = ap (λ k. let node : TypeId = record { 0 = k } in node) same

-- ---- names that an index finds

-- a place that is found is that of a thing of the name
pub found-name : {X : Type 0} (called : X → List ℕ) (xs : List X) (name : List ℕ) (place : ℕ) → position_from (λ x. bytes_eq (called x) name) 0 xs ≡ Some place
    → (x : X) × (slice_get xs place ≡ Some x) × (called x ≡ name)
found-name called xs name place e =
    let found = position-get (λ x. bytes_eq (called x) name) xs 0 place e in
    let at : place ≡ found.0 = omega (arith, found.2) in
    (found.1, subst (λ i. slice_get xs i ≡ Some found.1) (sym at) found.3, (bytes_eq-Decides (called found.1) name).0 found.4)

-- where none is found nothing has the name
pub none-named : {X : Type 0} (called : X → List ℕ) (xs : List X) (name : List ℕ) → position_from (λ x. bytes_eq (called x) name) 0 xs ≡ None
    → (k : ℕ) (x : X) → slice_get xs k ≡ Some x → called x ≢ name
none-named called xs name none k x at same =
    let found = position-first (λ y. bytes_eq (called y) name) xs 0 k x at ((bytes_eq-Decides (called x) name).1 same) in
    none-some found.0 (sym none ∙ found.1)

-- ---- typedefs and tags

module _ {program : Program} (settled : Settled program) where
  abbrev front : List (List ℕ)
  front = map (λ r. r.name) program.roots ++ map (λ c. c.name) program.caches

  named : (k : ℕ) (w : Typedef) → slice_get program.words k ≡ Some w → slice_get (global_names program) (length front + k) ≡ Some w.name
  named k w at =
      after front (map (λ (v : Typedef). v.name) program.words) k
      ∙ slice_get-map (λ (v : Typedef). v.name) program.words k ∙ ap (option_map (λ (v : Typedef). v.name)) at

  -- one typedef has a name
  pub word-one : (name : List ℕ) (w v : Typedef) → IsWordOf program name w → IsWordOf program name v → w ≡ v
  word-one name w v one other =
      let k = there program.words w one.0 in
      let l = there program.words v other.0 in
      let places : length front + k.0 ≡ length front + l.0 =
      one-place (global_names program) (length front + k.0) (length front + l.0) name settled.distinct_globals (named k.0 w k.1 ∙ ap Some one.1) (named l.0 v l.1 ∙ ap Some other.1)
      in
      let place : k.0 ≡ l.0 = omega (arith, places) in
      some-same (slice_get program.words l.0) w v (subst (λ i. slice_get program.words i ≡ Some w) place k.1) l.1

  -- one structure has a tag
  pub node-one : (n m : TypeId) (s t : Structure) → HasStructure program n s → HasStructure program m t → s.name ≡ t.name → n ≡ m
  node-one n m s t one other same =
      let names = map (λ (x : Structure). x.name) program.structures in
      let pairs : AllPairs ◌≢◌ names = mapped-pairs (λ (x : Structure). x.name) program.structures settled.distinct_structures in
      let place : n.0 ≡ m.0 =
      one-place names n.0 m.0 t.name pairs
      (slice_get-map (λ (x : Structure). x.name) program.structures n.0 ∙ ap (option_map (λ (x : Structure). x.name)) one ∙ ap Some same)
      (slice_get-map (λ (x : Structure). x.name) program.structures m.0 ∙ ap (option_map (λ (x : Structure). x.name)) other)
      in
      same-id n m place
