-- Elements of lists: of those that hold of all, and of what is given of some items.
use Rattle.std.proofs.Common.{◌≡◌, zero, suc, Option, Some, None, List, [], ◌∷◌, map, refl, ap, sym, subst, ◌⊎◌, inl, inr, arith}
use Rattle.std.specs.Prelude.{All, Contains, filter_map}
use Rattle.std.specs.List.{cons_option}
use Rattle.std.proofs.lemmas.List.Elements.{All-nil, All-cons}

module _ {X : Type 0} where
  pub nothing : (x : X) → ¬ Contains [] x
  nothing x (i, h, e) = absurd (omega arith)

  pub first : (x : X) (xs : List X) → Contains (x ∷ xs) x
  first x xs = (zero, omega arith, refl)

  pub later : (y x : X) (xs : List X) → Contains xs x → Contains (y ∷ xs) x
  later y x xs (i, h, e) = (suc i, omega arith, e)

  pub first-or-later : (y x : X) (xs : List X) → Contains (y ∷ xs) x → (y ≡ x) ⊎ Contains xs x
  first-or-later y x xs (zero, h, e) = inl e
  first-or-later y x xs (suc i, h, e) = inr (i, omega arith, e)

  -- what holds of each element holds of all
  pub all-of : (P : X → Type 0) (xs : List X) → ((x : X) → Contains xs x → P x) → All P xs
  all-of P [] each = All-nil P
  all-of P (x ∷ xs) each = All-cons P x xs (each x (first x xs)) (all-of P xs (λ y c. each y (later x y xs c)))

pub all-map : {X Y : Type 0} (f : X → Y) (P : Y → Type 0) (xs : List X) → ((x : X) → Contains xs x → P (f x)) → All P (map f xs)
all-map f P [] each = All-nil P
all-map f P (x ∷ xs) each = All-cons P (f x) (map f xs) (each x (first x xs)) (all-map f P xs (λ y c. each y (later x y xs c)))

-- ---- what is given of some items

module _ {Y : Type 0} where
  given-step : (o : Option Y) (l : List Y) (y : Y) → Contains (cons_option o l) y → (o ≡ Some y) ⊎ Contains l y
  given-step None l y c = inr c
  given-step (Some w) l y c = elim (first-or-later w y l c) [ inl is ↦ inl (ap Some is) | inr after ↦ inr after ]

  given-first : (o : Option Y) (l : List Y) (y : Y) → o ≡ Some y → Contains (cons_option o l) y
  given-first o l y e = subst (λ p. Contains (cons_option p l) y) (sym e) (first y l)

  given-later : (o : Option Y) (l : List Y) (y : Y) → Contains l y → Contains (cons_option o l) y
  given-later None l y c = c
  given-later (Some w) l y c = later w y l c

module _ {X Y : Type 0} where
  given-here : (h : X → Option Y) (x z : X) (xs : List X) (y : Y) → (x ≡ z) ⊎ Contains (filter_map h xs) y → h z ≡ Some y → Contains (cons_option (h x) (filter_map h xs)) y
  given-here h x z xs y (inl is) e = given-first (h x) (filter_map h xs) y (subst (λ w. h w ≡ Some y) (sym is) e)
  given-here h x z xs y (inr after) e = given-later (h x) (filter_map h xs) y after

  -- what is given of an item is there
  pub given-in : (h : X → Option Y) (xs : List X) (x : X) (y : Y) → Contains xs x → h x ≡ Some y → Contains (filter_map h xs) y
  given-in h [] x y c e = absurd (nothing x c)
  given-in h (z ∷ xs) x y c e = given-here h z x xs y (elim (first-or-later z x xs c) [ inl is ↦ inl is | inr after ↦ inr (given-in h xs x y after e) ]) e

  -- and what is there is given of some item
  pub given-from : (h : X → Option Y) (xs : List X) (y : Y) → Contains (filter_map h xs) y → (x : X) × Contains xs x × (h x ≡ Some y)
  given-from h [] y c = absurd (nothing y c)
  given-from h (x ∷ xs) y c = elim (given-step (h x) (filter_map h xs) y c) [
    | inl e ↦ (x, first x xs, e)
    | inr d ↦ let found = given-from h xs y d in (found.0, later x found.0 xs found.1, found.2)
  ]
