-- Items of filtered lists, and lists that rise.
use Rattle.std.proofs.Common.{◌≡◌, ℕ, suc, ◌+◌, ◌<◌, ◌≤◌, Bool, true, false, cond, List, [], ◌∷◌, map, length, count_by, not, Some, refl, sym, ap, subst, ◌∙◌, inl, inr, arith}
use Rattle.std.specs.Prelude.{find, filter, All, AllPairs, Contains, slice_get}
use Rattle.std.proofs.lemmas.Bool.{cases_Bool, false≢true}
use Rattle.std.proofs.lemmas.List.Elements.{All-nil, All-cons, All-map, All-weaker}
use Rattle.std.proofs.lemmas.List.Kept.{AllPairs-cons}
use Rattle.std.proofs.lemmas.List.Sums.{sum_by-cons}
use Rattle.gt_objects.proofs.Items.{first_there, later_there, none_there, pairs_head, pairs_tail, there_cases}

module _ {X : Type 0} (keeps : X → Bool) where
  pub first_kept : (x : X) (xs : List X) → keeps x ≡ true → filter keeps (x ∷ xs) ≡ x ∷ filter keeps xs
  first_kept x xs h = ap (λ b. cond b (x ∷ filter keeps xs) (filter keeps xs)) h

  pub first_freed : (x : X) (xs : List X) → keeps x ≡ false → filter keeps (x ∷ xs) ≡ filter keeps xs
  first_freed x xs h = ap (λ b. cond b (x ∷ filter keeps xs) (filter keeps xs)) h

  -- what is kept was there, and passes
  pub kept_there : (xs : List X) (x : X) → Contains (filter keeps xs) x → Contains xs x × (keeps x ≡ true)
  kept_there [] x there = none_there x there
  kept_there (y ∷ ys) x there = elim (cases_Bool (keeps y)) [
    | inl stays ↦ elim (there_cases y (filter keeps ys) x (subst (λ zs. Contains zs x) (first_kept y ys stays) there)) as (λ _. Contains (y ∷ ys) x × (keeps x ≡ true)) [
      | inl is ↦ (subst (λ z. Contains (y ∷ ys) z) is (first_there y ys), sym (ap keeps is) ∙ stays)
      | inr later ↦ let rest = kept_there ys x later in (later_there y ys x rest.0, rest.1)
    ]
    | inr goes ↦ let rest = kept_there ys x (subst (λ zs. Contains zs x) (first_freed y ys goes) there) in (later_there y ys x rest.0, rest.1)
  ]

  -- where all that pass a test are kept, the first that passes is as before
  pub find_kept : (test : X → Bool) (xs : List X) → ((x : X) → Contains xs x → test x ≡ true → keeps x ≡ true) → find test (filter keeps xs) ≡ find test xs
  find_kept test [] all = refl
  find_kept test (y ∷ ys) all =
      let rest = find_kept test ys (λ x there. all x (later_there y ys x there)) in
      elim (cases_Bool (keeps y)) as (λ _. find test (filter keeps (y ∷ ys)) ≡ find test (y ∷ ys)) [
        | inl stays ↦ ap (find test) (first_kept y ys stays) ∙ ap (λ o. cond (test y) (Some y) o) rest
        | inr goes ↦ elim (cases_Bool (test y)) as (λ _. find test (filter keeps (y ∷ ys)) ≡ find test (y ∷ ys)) [
          | inl passes ↦ absurd (false≢true (sym goes ∙ all y (first_there y ys) passes))
          | inr fails ↦ ap (find test) (first_freed y ys goes) ∙ rest ∙ sym (ap (λ b. cond b (Some y) (find test ys)) fails)
        ]
      ]

-- tests that agree on a list keep the same
pub kept_same : {X : Type 0} (p q : X → Bool) (xs : List X) → ((x : X) → Contains xs x → p x ≡ q x) → filter p xs ≡ filter q xs
kept_same p q [] same = refl
kept_same p q (x ∷ xs) same =
    ap (λ b. cond b (x ∷ filter p xs) (filter p xs)) (same x (first_there x xs))
    ∙ ap (λ ys. cond (q x) (x ∷ ys) ys) (kept_same p q xs (λ y there. same y (later_there x xs y there)))

-- a test of what items are mapped to
pub map_kept : {X Y : Type 0} (f : X → Y) (q : Y → Bool) (xs : List X) → map f (filter (λ x. q (f x)) xs) ≡ filter q (map f xs)
map_kept f q [] = refl
map_kept {X} {Y} f q (x ∷ xs) = elim (cases_Bool (q (f x))) as (λ _. map f (filter (λ x. q (f x)) (x ∷ xs)) ≡ filter q (map f (x ∷ xs))) [
  | inl stays ↦ ap (map f) (first_kept (λ x. q (f x)) x xs stays) ∙ ap (λ ys. f x ∷ ys) (map_kept f q xs) ∙ sym (first_kept q (f x) (map f xs) stays)
  | inr goes ↦ ap (map f) (first_freed (λ x. q (f x)) x xs goes) ∙ map_kept f q xs ∙ sym (first_freed q (f x) (map f xs) goes)
]

-- what is kept and what is not are all
pub count_kept : {X : Type 0} (p q : X → Bool) → ((x : X) → q x ≡ not (p x)) → (xs : List X) → count_by q xs + length (filter p xs) ≡ length xs
count_kept p q other [] = refl
count_kept p q other (x ∷ xs) =
    let rest = count_kept p q other xs in
    let more = sum_by-cons (λ y. cond (q y) 1 0) x xs in
    elim (cases_Bool (p x)) as (λ _. count_by q (x ∷ xs) + length (filter p (x ∷ xs)) ≡ length (x ∷ xs)) [
      | inl stays ↦
          let one : cond {A = ℕ} (q x) 1 0 ≡ 0 = ap (λ b. cond {A = ℕ} b 1 0) (other x ∙ ap not stays) in
          let kept : length (filter p (x ∷ xs)) ≡ suc (length (filter p xs)) = ap length (first_kept p x xs stays) in
          omega (arith, rest, more, one, kept)
      | inr goes ↦
          let one : cond {A = ℕ} (q x) 1 0 ≡ 1 = ap (λ b. cond {A = ℕ} b 1 0) (other x ∙ ap not goes) in
          let kept : length (filter p (x ∷ xs)) ≡ length (filter p xs) = ap length (first_freed p x xs goes) in
          omega (arith, rest, more, one, kept)
    ]

-- ---- lists that rise

module _ {X : Type 0} (key : X → ℕ) where
  -- each item is below the next
  abbrev pub Rising : List X → Type 0
  Rising xs = (i : ℕ) (x y : X) → slice_get xs i ≡ Some x → slice_get xs (i + 1) ≡ Some y → key x < key y

  rising_rest : (x : X) (xs : List X) → Rising (x ∷ xs) → Rising xs
  rising_rest x xs rises i y z at next =
      let one : suc i + 1 ≡ suc (i + 1) = omega arith in
      rises (suc i) y z at (ap (slice_get (x ∷ xs)) one ∙ next)

  rising_first : (x : X) (xs : List X) → Rising (x ∷ xs) → All (λ y. key x < key y) xs
  rising_first x [] rises = All-nil (λ y. key x < key y)
  rising_first x (y ∷ ys) rises =
      let below = rises 0 x y refl refl in
      All-cons (λ z. key x < key z) y ys below
      (All-weaker (λ z. key y < key z) (λ z. key x < key z) (λ z above. omega (arith, below, above)) ys (rising_first y ys (rising_rest x (y ∷ ys) rises)))

  -- then each is below all later ones
  pub rising_pairs : (xs : List X) → Rising xs → AllPairs (λ x y. key x < key y) xs
  rising_pairs [] rises = λ i j d before low. absurd (let no : 1 ≤ 0 = omega (arith, low) in omega (arith, no))
  rising_pairs (x ∷ xs) rises = AllPairs-cons (λ x y. key x < key y) x xs (rising_first x xs rises) (rising_pairs xs (rising_rest x xs rises))

-- what holds of all pairs of items holds of what they are mapped to
pub pairs_mapped : {X Y : Type 0} (f : X → Y) (R : Y → Y → Type 0) (xs : List X) → AllPairs (λ x y. R (f x) (f y)) xs → AllPairs R (map f xs)
pairs_mapped f R [] pairs = λ i j d before low. absurd (let no : 1 ≤ 0 = omega (arith, low) in omega (arith, no))
pairs_mapped f R (x ∷ xs) pairs =
    AllPairs-cons R (f x) (map f xs) (All-map (R (f x)) f xs (pairs_head (λ x y. R (f x) (f y)) x xs pairs)) (pairs_mapped f R xs (pairs_tail (λ x y. R (f x) (f y)) x xs pairs))
