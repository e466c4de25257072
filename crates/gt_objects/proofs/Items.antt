-- Items of lists: which are there, and which is the first that passes a test.
use Rattle.std.proofs.Common.{◌≡◌, suc, ◌≤◌, Bool, true, false, cond, List, [], ◌∷◌, ◌++◌, map, Some, None, refl, sym, ap, subst, ◌∙◌, inl, inr, arith}
use Rattle.std.specs.Prelude.{◌⊎◌, find, All, AllPairs, Contains}
use Rattle.std.proofs.lemmas.Bool.{cases_Bool, false≢true}
use Rattle.std.proofs.lemmas.Option.{none-some}
use Rattle.std.proofs.lemmas.List.Elements.{All-weaker, All-contains_itself, Contains-append_cases, Contains-append_right, Contains-push_cases}

module _ {X : Type 0} where
  pub none_there : {C : Type 0} (x : X) → Contains [] x → C
  none_there x there = absurd (let no : 1 ≤ 0 = omega (arith, there.1) in omega (arith, no))

  pub first_there : (x : X) (xs : List X) → Contains (x ∷ xs) x
  first_there x xs = (0, omega arith, refl)

  pub later_there : (y : X) (xs : List X) (x : X) → Contains xs x → Contains (y ∷ xs) x
  later_there y xs x there = Contains-append_right (y ∷ []) xs x there

  pub there_cases : (y : X) (xs : List X) (x : X) → Contains (y ∷ xs) x → (y ≡ x) ⊎ Contains xs x
  there_cases y xs x there = elim (Contains-append_cases (y ∷ []) xs x there) [
    | inl first ↦ elim (Contains-push_cases [] y x first) [
      | inl none ↦ none_there x none
      | inr is ↦ inl is
    ]
    | inr later ↦ inr later
  ]

  -- what holds of each item that is there
  pub all_by : (P : X → Type 0) (xs : List X) → ((x : X) → Contains xs x → P x) → All P xs
  all_by P xs each = All-weaker (Contains xs) P each xs (All-contains_itself xs)

  -- ---- pairs

  pub pairs_head : (R : X → X → Type 0) (x : X) (xs : List X) → AllPairs R (x ∷ xs) → All (R x) xs
  pairs_head R x xs pairs k d low = pairs 0 (suc k) d (omega arith) (omega (arith, low))

  pub pairs_tail : (R : X → X → Type 0) (x : X) (xs : List X) → AllPairs R (x ∷ xs) → AllPairs R xs
  pairs_tail R x xs pairs i j d before low = pairs (suc i) (suc j) d (omega (arith, before)) (omega (arith, low))

  -- ---- the first that passes a test

  module _ (test : X → Bool) where
    -- where one passes, one is found
    pub find_some : (xs : List X) (x : X) → Contains xs x → test x ≡ true → (y : X) × (find test xs ≡ Some y) × Contains xs y × (test y ≡ true)
    find_some [] x there passes = none_there x there
    find_some (y ∷ ys) x there passes = elim (cases_Bool (test y)) [
      | inl here ↦ (y, ap (λ b. cond b (Some y) (find test ys)) here, first_there y ys, here)
      | inr not_here ↦ elim (there_cases y ys x there) [
        | inl is ↦ absurd (false≢true (sym not_here ∙ ap test is ∙ passes))
        | inr later ↦
            let found = find_some ys x later passes in
            (found.0, ap (λ b. cond b (Some y) (find test ys)) not_here ∙ found.1, later_there y ys found.0 found.2, found.3)
      ]
    ]

    -- what is found is there, and passes
    pub find_is : (xs : List X) (x : X) → find test xs ≡ Some x → Contains xs x × (test x ≡ true)
    find_is [] x e = absurd (none-some x e)
    find_is (y ∷ ys) x e = elim (cases_Bool (test y)) [
      | inl here ↦
          let same : Some y ≡ Some x = sym (ap (λ b. cond b (Some y) (find test ys)) here) ∙ e in
          let is : y ≡ x = cc in
          (subst (λ z. Contains (y ∷ ys) z) is (first_there y ys), subst (λ z. test z ≡ true) is here)
      | inr not_here ↦
          let found = find_is ys x (sym (ap (λ b. cond b (Some y) (find test ys)) not_here) ∙ e) in
          (later_there y ys x found.0, found.1)
    ]

    -- where none is found, none passes
    pub find_none : (xs : List X) (x : X) → find test xs ≡ None → Contains xs x → test x ≡ true → ⊥
    find_none xs x none there passes = let found = find_some xs x there passes in none-some found.0 (sym none ∙ found.1)

    -- where none passes, none is found
    pub none_found : (xs : List X) → ((x : X) → Contains xs x → test x ≡ false) → find test xs ≡ None
    none_found [] none = refl
    none_found (y ∷ ys) none =
        ap (λ b. cond b (Some y) (find test ys)) (none y (first_there y ys)) ∙ none_found ys (λ x there. none x (later_there y ys x there))

    -- one item more, which does not pass, changes nothing
    pub find_past : (front back : List X) (x : X) → test x ≡ false → find test (front ++ x ∷ back) ≡ find test (front ++ back)
    find_past [] back x fails = ap (λ b. cond b (Some x) (find test back)) fails
    find_past (y ∷ front) back x fails = ap (λ o. cond (test y) (Some y) o) (find_past front back x fails)

-- ---- items of a mapped list

pub map_there : {X Y : Type 0} (f : X → Y) (xs : List X) (x : X) → Contains xs x → Contains (map f xs) (f x)
map_there f [] x there = none_there x there
map_there f (y ∷ ys) x there = elim (there_cases y ys x there) [
  | inl is ↦ subst (λ z. Contains (f y ∷ map f ys) (f z)) is (first_there (f y) (map f ys))
  | inr later ↦ later_there (f y) (map f ys) (f x) (map_there f ys x later)
]

pub there_mapped : {X Y : Type 0} (f : X → Y) (xs : List X) (y : Y) → Contains (map f xs) y → (x : X) × Contains xs x × (f x ≡ y)
there_mapped f [] y there = none_there y there
there_mapped f (x ∷ xs) y there = elim (there_cases (f x) (map f xs) y there) [
  | inl is ↦ (x, first_there x xs, is)
  | inr later ↦ let found = there_mapped f xs y later in (found.0, later_there x xs found.0 found.1, found.2)
]
