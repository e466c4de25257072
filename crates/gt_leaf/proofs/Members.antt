-- Elements of lists: of one to which another is added where it is new, and of those of each of several.
use Rattle.std.proofs.Common.{◌≡◌, zero, suc, ◌||◌, Bool, true, false, Option, None, List, [], ◌∷◌, ◌++◌, refl, ap, sym, subst, ◌∙◌, ◌⊎◌, arith, Some, inl, inr, if◌then◌else◌}
use Rattle.std.specs.Prelude.{◌↔◌, Contains, flat_map, filter_map}
use Rattle.std.specs.List.{list_any, cons_option}
use Rattle.std.proofs.lemmas.List.Elements.{Contains-append_left, Contains-append_right, Contains-append_cases, Contains-push, Contains-push_cases}
use Rattle.std.proofs.lemmas.List.Folds.{list_any-from_Any}

module _ {X : Type 0} where
  pub nothing : (x : X) → ¬ Contains [] x
  nothing x (i, h, e) = absurd (omega arith)

  pub first : (x : X) (xs : List X) → Contains (x ∷ xs) x
  first x xs = (zero, omega arith, refl)

  pub later : (y x : X) (xs : List X) → Contains xs x → Contains (y ∷ xs) x
  later y x xs (i, h, e) = (suc i, omega arith, e)

  pub first-or-later : (y x : X) (xs : List X) → Contains (y ∷ xs) x → (y ≡ x) ⊎ Contains xs x
  first-or-later y x xs (zero, h, e) = inl e
  first-or-later y x xs (suc i, h, e) = inr (i, omega arith, e)

  -- ---- what passes a test

  found-step : (p : X → Bool) (x : X) (xs : List X) (b : Bool) → p x ≡ b → (list_any p xs ≡ true → (y : X) × Contains xs y × (p y ≡ true)) → list_any p (x ∷ xs) ≡ true → (y : X) × Contains (x ∷ xs) y × (p y ≡ true)
  found-step p x xs true e rest h = (x, first x xs, e)
  found-step p x xs false e rest h =
      let found = rest (ap (λ b. b || list_any p xs) (sym e) ∙ h) in
      (found.0, later x found.0 xs found.1, found.2)

  pub any-found : (p : X → Bool) (xs : List X) → list_any p xs ≡ true → (x : X) × Contains xs x × (p x ≡ true)
  any-found p [] h = absurd (cc)
  any-found p (x ∷ xs) h = found-step p x xs (p x) refl (any-found p xs) h

  -- a test that one element alone passes finds this one
  pub found-there : (p : X → Bool) (xs : List X) (x : X) → ((y : X) → p y ≡ true → y ≡ x) → list_any p xs ≡ true → Contains xs x
  found-there p xs x only h = let found = any-found p xs h in subst (Contains xs) (only found.0 found.2) found.1

  pub there-found : (p : X → Bool) (xs : List X) (x : X) → p x ≡ true → Contains xs x → list_any p xs ≡ true
  there-found p xs x h c = list_any-from_Any p xs (c.0, x, c.1, c.2, h)

  -- the elements where one is added that is new
  pub added : (p : X → Bool) (xs : List X) (y x : X) → ((z : X) → p z ≡ true → z ≡ y) → Contains (if list_any p xs then xs else xs ++ y ∷ []) x ↔ (Contains xs x ⊎ (y ≡ x))
  added p xs y x only = go (list_any p xs) refl
    where
      go : (b : Bool) → list_any p xs ≡ b → Contains (if b then xs else xs ++ y ∷ []) x ↔ (Contains xs x ⊎ (y ≡ x))
      go true e = (λ c. inl c, λ h. elim h [ inl c ↦ c | inr is ↦ subst (Contains xs) is (found-there p xs y only e) ])
      go false e = (λ c. Contains-push_cases xs y x c, λ h. elim h [ inl c ↦ Contains-append_left xs (y ∷ []) x c | inr is ↦ subst (Contains (xs ++ y ∷ [])) is (Contains-push xs y) ])

  pub contains-append : (xs ys : List X) (x : X) → Contains (xs ++ ys) x ↔ (Contains xs x ⊎ Contains ys x)
  contains-append xs ys x = (λ c. Contains-append_cases xs ys x c, λ h. elim h [ inl c ↦ Contains-append_left xs ys x c | inr c ↦ Contains-append_right xs ys x c ])

flat-step : {X Y : Type 0} (f : X → List Y) (x : X) (xs : List X) (y : Y) → Contains (flat_map f xs) y ↔ ((z : X) × Contains xs z × Contains (f z) y) → Contains (f x ++ flat_map f xs) y ↔ ((z : X) × Contains (x ∷ xs) z × Contains (f z) y)
flat-step {X} {Y} f x xs y rest = (there, back)
  where
    there : Contains (f x ++ flat_map f xs) y → (z : X) × Contains (x ∷ xs) z × Contains (f z) y
    there c = elim (Contains-append_cases (f x) (flat_map f xs) y c) [ inl d ↦ (x, first x xs, d) | inr d ↦ let found = rest.0 d in (found.0, later x found.0 xs found.1, found.2) ]

    back : (z : X) × Contains (x ∷ xs) z × Contains (f z) y → Contains (f x ++ flat_map f xs) y
    back (z, c, d) = elim (first-or-later x z xs c) [
      | inl is ↦ Contains-append_left (f x) (flat_map f xs) y (subst (λ w. Contains (f w) y) (sym is) d)
      | inr after ↦ Contains-append_right (f x) (flat_map f xs) y (rest.1 (z, after, d))
    ]

-- the elements of what each of several has
pub contains-flat : {X Y : Type 0} (f : X → List Y) (xs : List X) (y : Y) → Contains (flat_map f xs) y ↔ ((x : X) × Contains xs x × Contains (f x) y)
contains-flat f [] y = (λ c. absurd (nothing y c), λ h. absurd (nothing h.0 h.1))
contains-flat f (x ∷ xs) y = flat-step f x xs y (contains-flat f xs y)

-- ---- what is given of some items

module _ {Y : Type 0} where
  option-cases : (o : Option Y) (l : List Y) (y : Y) → Contains (cons_option o l) y ↔ ((o ≡ Some y) ⊎ Contains l y)
  option-cases None l y = (λ c. inr c, λ h. elim h [ inl e ↦ absurd (cc) | inr c ↦ c ])
  option-cases (Some w) l y = (there, back)
    where
      there : Contains (w ∷ l) y → (Some w ≡ Some y) ⊎ Contains l y
      there c = elim (first-or-later w y l c) [ inl is ↦ inl (ap Some is) | inr after ↦ inr after ]

      back : (Some w ≡ Some y) ⊎ Contains l y → Contains (w ∷ l) y
      back (inl e) = let is : w ≡ y = cc in subst (Contains (w ∷ l)) is (first w l)
      back (inr c) = later w y l c

module _ {X Y : Type 0} where
  filter-step : (h : X → Option Y) (x : X) (xs : List X) (y : Y) → Contains (filter_map h xs) y ↔ ((z : X) × Contains xs z × (h z ≡ Some y))
      → Contains (cons_option (h x) (filter_map h xs)) y ↔ ((z : X) × Contains (x ∷ xs) z × (h z ≡ Some y))
  filter-step h x xs y rest = (there, back)
    where
      there : Contains (cons_option (h x) (filter_map h xs)) y → (z : X) × Contains (x ∷ xs) z × (h z ≡ Some y)
      there c = elim ((option-cases (h x) (filter_map h xs) y).0 c) [ inl e ↦ (x, first x xs, e) | inr d ↦ let found = rest.0 d in (found.0, later x found.0 xs found.1, found.2) ]

      back : (z : X) × Contains (x ∷ xs) z × (h z ≡ Some y) → Contains (cons_option (h x) (filter_map h xs)) y
      back (z, c, e) = (option-cases (h x) (filter_map h xs) y).1 (elim (first-or-later x z xs c) [ inl is ↦ inl (ap h is ∙ e) | inr after ↦ inr (rest.1 (z, after, e)) ])

  -- what is given of some item
  pub filter-contains : (h : X → Option Y) (xs : List X) (y : Y) → Contains (filter_map h xs) y ↔ ((x : X) × Contains xs x × (h x ≡ Some y))
  filter-contains h [] y = (λ c. absurd (nothing y c), λ (x, c, e). absurd (nothing x c))
  filter-contains h (x ∷ xs) y = filter-step h x xs y (filter-contains h xs y)
