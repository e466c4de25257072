-- What a collection keeps is one heap.
use Rattle.std.proofs.Common.{◌≡◌, ℕ, zero, suc, Bool, true, false, cond, IsTrue, List, [], ◌∷◌, filter, map, refl, ap, sym, subst, ◌∙◌, arith}
use Rattle.std.specs.Prelude.{Contains}
use Rattle.gt_types.specs.declared.program.Program.{Program}
use Rattle.gt_layout.specs.declared.planes.Layouts.{Layouts}
use Rattle.gt_graph.specs.Objects.{Object, Graph}
use Rattle.gt_graph.specs.Places.{Placed, Places, ArePlacesOf}
use Rattle.gt_graph.specs.Good.{Heap}
use Rattle.gt_graph.specs.Kept.{ReachedWith, PairsStay, CachesStay, After}

-- ---- pairs that stay

module _ {program : Program} {g : Graph} where
  pairs-one : {values after end : List ℕ} {old new other : List (ℕ × ℕ)} → PairsStay program g values old new after → PairsStay program g values old other end → (new ≡ other) × (after ≡ end)
  pairs-one PairsStay.no_pair PairsStay.no_pair = (refl, refl)
  pairs-one (PairsStay.stays {pair} r p) (PairsStay.stays q h) = let same = pairs-one p h in (ap (λ xs. pair ∷ xs) same.0, same.1)
  pairs-one (PairsStay.stays r p) (PairsStay.goes q h) = absurd (q r)
  pairs-one (PairsStay.goes r p) (PairsStay.stays q h) = absurd (r q)
  pairs-one (PairsStay.goes r p) (PairsStay.goes q h) = pairs-one p h

  caches-one : {values after end : List ℕ} {old new other : List (List (ℕ × ℕ))} → CachesStay program g values old new after → CachesStay program g values old other end → (new ≡ other) × (after ≡ end)
  caches-one CachesStay.no_cache CachesStay.no_cache = (refl, refl)
  caches-one (CachesStay.next_cache {new = x} {news = xs} p c) (CachesStay.next_cache {after = end} {new = y} {olds} {news = ys} q d) =
      let first = pairs-one p q in
      let rest = caches-one c (subst (λ v. CachesStay program g v olds ys end) (sym first.1) d) in
      (ap (λ z. z ∷ xs) first.0 ∙ ap (λ zs. y ∷ zs) rest.0, rest.1)

-- ---- lists

both-ways : (a b : Bool) → (IsTrue a → IsTrue b) → (IsTrue b → IsTrue a) → a ≡ b
both-ways true b f g = sym (f refl)
both-ways false true f g = g refl
both-ways false false f g = refl

filter-same : {X : Type 0} (p q : X → Bool) (xs : List X) → ((x : X) → Contains xs x → p x ≡ q x) → filter p xs ≡ filter q xs
filter-same p q [] same = refl
filter-same p q (x ∷ xs) same =
    let rest = filter-same p q xs (λ y c. same y (suc c.0, omega (arith, c.1), c.2)) in
    ap (λ b. cond b (x ∷ filter p xs) (filter p xs)) (same x (0, omega arith, refl)) ∙ ap (λ ys. cond (q x) (x ∷ ys) ys) rest

contains-map : {X Y : Type 0} (f : X → Y) (xs : List X) (x : X) → Contains xs x → Contains (map f xs) (f x)
contains-map f [] x (k, lt, e) = absurd (omega (arith, lt))
contains-map f (y ∷ ys) x (zero, lt, e) = (0, omega arith, ap f e)
contains-map f (y ∷ ys) x (suc k, lt, e) = let c = contains-map f ys x (k, omega (arith, lt), e) in (suc c.0, omega (arith, c.1), c.2)

map-contains : {X Y : Type 0} (f : X → Y) (xs : List X) (y : Y) → Contains (map f xs) y → (x : X) × Contains xs x × (f x ≡ y)
map-contains f [] y (k, lt, e) = absurd (omega (arith, lt))
map-contains f (x ∷ xs) y (zero, lt, e) = (x, (0, omega arith, refl), e)
map-contains f (x ∷ xs) y (suc k, lt, e) = let found = map-contains f xs y (k, omega (arith, lt), e) in (found.0, (suc found.1.0, omega (arith, found.1.1), found.1.2), found.2)

-- ---- one heap

module _ (program : Program) (layouts : Layouts) (old new other : Heap) (laid : ArePlacesOf program layouts old.graph.objects old.places) (a : After program old new) (b : After program old other) where
  same-values : a.values ≡ b.values
  same-values = (caches-one a.stay b.stay).1

  kept-same : (o : Object) → Contains old.graph.objects o → a.kept o.id ≡ b.kept o.id
  kept-same o c =
      let mine = a.exact o c in
      let theirs = b.exact o c in
      both-ways (a.kept o.id) (b.kept o.id) (λ h. theirs.1 (subst (λ v. ReachedWith program old.graph v o.id) same-values (mine.0 h)))
      (λ h. mine.1 (subst (λ v. ReachedWith program old.graph v o.id) (sym same-values) (theirs.0 h)))

  placed-kept : (p : Placed) → Contains old.places.placed p → a.kept p.id ≡ b.kept p.id
  placed-kept p c =
      let named = subst (λ ns. Contains ns p.id) laid.names (contains-map (λ x. x.id) old.places.placed p c) in
      let found = map-contains (λ o. o.id) old.graph.objects p.id named in
      subst (λ n. a.kept n ≡ b.kept n) found.2 (kept-same found.0 found.1)

  pub heap-one : new ≡ other
  heap-one =
      let pairs : new.graph.pairs ≡ other.graph.pairs = (caches-one a.stay b.stay).0 in
      let objects : new.graph.objects ≡ other.graph.objects = a.objects ∙ filter-same (λ o. a.kept o.id) (λ o. b.kept o.id) old.graph.objects kept-same ∙ sym b.objects in
      let statics : new.graph.statics ≡ other.graph.statics = a.statics ∙ sym b.statics in
      let placed = filter-same (λ p. a.kept p.id) (λ p. b.kept p.id) old.places.placed placed-kept in
      let places : new.places ≡ other.places = a.places ∙ ap (λ ps. let r : Places = record old.places { placed = ps } in r) placed ∙ sym b.places in
      ap (λ x. let h : Heap = record { graph = record { objects = x; statics = new.graph.statics; pairs = new.graph.pairs }; places = new.places } in h) objects
      ∙ ap (λ x. let h : Heap = record { graph = record { objects = other.graph.objects; statics = x; pairs = new.graph.pairs }; places = new.places } in h) statics
      ∙ ap (λ x. let h : Heap = record { graph = record { objects = other.graph.objects; statics = other.graph.statics; pairs = x }; places = new.places } in h) pairs
      ∙ ap (λ x. let h : Heap = record { graph = other.graph; places = x } in h) places
