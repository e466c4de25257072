-- Where keys rise, one more item has one place.
use Rattle.std.proofs.Common.{◌≡◌, ℕ, suc, ◌+◌, ◌<◌, List, [], ◌∷◌, ◌++◌, map, refl, ap, sym, subst, ◌∙◌, arith, Some}
use Rattle.std.specs.Prelude.{Contains, slice_get}
use Rattle.gt_graph.specs.Changes.{Inserts}

-- each key is above a number
abbrev pub Above : {X : Type 0} → (X → ℕ) → ℕ → List X → Type 0
Above key n [] = Unit {0}
Above key n (x ∷ xs) = (n < key x) × Above key n xs

-- each key is below all later ones
abbrev pub Climbs : {X : Type 0} → (X → ℕ) → List X → Type 0
Climbs key [] = Unit {0}
Climbs key (x ∷ xs) = Above key (key x) xs × Climbs key xs

module _ {X : Type 0} (key : X → ℕ) where
  above-lower : (n m : ℕ) (xs : List X) → n < m → Above key m xs → Above key n xs
  above-lower n m [] lt h = tt
  above-lower n m (x ∷ xs) lt h = let first = h.0 in (omega (arith, lt, first), above-lower n m xs lt h.1)

  pub climbs-from : (xs : List X) → ((i : ℕ) (x y : X) → slice_get xs i ≡ Some x → slice_get xs (i + 1) ≡ Some y → key x < key y) → Climbs key xs
  climbs-from [] rising = tt
  climbs-from (x ∷ []) rising = (tt, tt)
  climbs-from (x ∷ y ∷ ys) rising =
      let lt : key x < key y = rising 0 x y refl refl in
      let rest = climbs-from (y ∷ ys) (λ i a b h k. let next : suc i + 1 ≡ suc (i + 1) = omega arith in rising (suc i) a b h (subst (λ j. slice_get (x ∷ y ∷ ys) j ≡ Some b) (sym next) k)) in
      ((lt, above-lower (key x) (key y) ys lt rest.0), rest)

  above-middle : (n : ℕ) (front : List X) (x : X) (back : List X) → Above key n (front ++ x ∷ back) → n < key x
  above-middle n [] x back h = h.0
  above-middle n (y ∷ front) x back h = above-middle n front x back h.1

  insert-one : (x : X) (front back other rest : List X) → front ++ back ≡ other ++ rest → Climbs key (front ++ x ∷ back) → Climbs key (other ++ x ∷ rest) → front ++ x ∷ back ≡ other ++ x ∷ rest
  insert-one x [] back [] rest e a b = ap (λ xs. x ∷ xs) e
  insert-one x [] back (z ∷ other) rest e a b =
      let up : Above key (key x) (z ∷ (other ++ rest)) = subst (Above key (key x)) e a.0 in
      let low = up.0 in
      let high = above-middle (key z) other x rest b.0 in
      absurd (omega (arith, low, high))
  insert-one x (y ∷ front) back [] rest e a b =
      let up : Above key (key x) (y ∷ (front ++ back)) = subst (Above key (key x)) (sym e) b.0 in
      let low = up.0 in
      let high = above-middle (key y) front x back a.0 in
      absurd (omega (arith, low, high))
  insert-one x (y ∷ front) back (z ∷ other) rest e a b =
      let first : y ≡ z = cc in
      let later : front ++ back ≡ other ++ rest = cc in
      let more = insert-one x front back other rest later a.1 b.1 in
      ap (λ v. v ∷ (front ++ x ∷ back)) first ∙ ap (λ vs. z ∷ vs) more

  pub inserts-one : (x y : X) (old new other : List X) → x ≡ y → Inserts x old new → Inserts y old other → Climbs key new → Climbs key other → new ≡ other
  inserts-one x y old new other same (front, back, e, f) (lead, rest, g, h) a b =
      let here : other ≡ lead ++ x ∷ rest = h ∙ ap (λ z. lead ++ z ∷ rest) (sym same) in
      f ∙ insert-one x front back lead rest (sym e ∙ g) (subst (Climbs key) f a) (subst (Climbs key) here b) ∙ sym here

-- keys rise as they do in the list of them
module _ {X : Type 0} (key : X → ℕ) where
  above-map : (n : ℕ) (xs : List X) → Above key n xs → Above (λ k. k) n (map key xs)
  above-map n [] h = tt
  above-map n (x ∷ xs) h = (h.0, above-map n xs h.1)

  pub climbs-map : (xs : List X) → Climbs key xs → Climbs (λ k. k) (map key xs)
  climbs-map [] h = tt
  climbs-map (x ∷ xs) h = (above-map (key x) xs h.0, climbs-map xs h.1)

  map-above : (n : ℕ) (xs : List X) → Above (λ k. k) n (map key xs) → Above key n xs
  map-above n [] h = tt
  map-above n (x ∷ xs) h = (h.0, map-above n xs h.1)

  pub map-climbs : (xs : List X) → Climbs (λ k. k) (map key xs) → Climbs key xs
  map-climbs [] h = tt
  map-climbs (x ∷ xs) h = (map-above (key x) xs h.0, map-climbs xs h.1)

contains-middle : {X : Type 0} (front : List X) (x : X) (back : List X) → Contains (front ++ x ∷ back) x
contains-middle [] x back = (0, omega arith, refl)
contains-middle (y ∷ front) x back = let c = contains-middle front x back in (suc c.0, omega (arith, c.1), c.2)

pub inserts-contains : {X : Type 0} (x : X) (old new : List X) → Inserts x old new → Contains new x
inserts-contains x old new (front, back, e, f) = subst (λ xs. Contains xs x) (sym f) (contains-middle front x back)
