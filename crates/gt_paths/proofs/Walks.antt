-- What is said of the list that the parts of an expression add to, one after the other.
use Rattle.std.proofs.Common.{◌≡◌, ◌⊎◌, inl, inr, ℕ, ◌<◌, Bool, true, false, List, [], ◌∷◌, ◌++◌, length, get_or, sym, subst, refl, arith}
use Rattle.std.specs.Prelude.{All, Any, Option, Some, None, filter_map}
use Rattle.std.specs.List.{cons_option}
use Rattle.std.specs.Bool.{Decides}
use Rattle.gt_paths.specs.Results.{HasResult}
use Rattle.std.proofs.lemmas.Bool.Decides.{not_from_Decides}
use Rattle.std.proofs.lemmas.List.Elements.{All-append, All-nil, All-cons, All-head, All-tail, Contains-append_left, Contains-append_right, Contains-append_cases}

-- a fact of a list holds of both parts exactly where it holds of the whole
pub record Splits {X : Type 0} (Q : List X → Type 0) : Type 0 where
  pub first : (xs ys : List X) → Q (xs ++ ys) → Q xs
  pub second : (xs ys : List X) → Q (xs ++ ys) → Q ys
  pub both : (xs ys : List X) → Q xs → Q ys → Q (xs ++ ys)

pub stops : {X : Type 0} (Q : List X → Type 0) → Splits Q → (zs xs ys : List X) (a : Bool) → zs ≡ xs ++ ys → Decides a (Q xs) → a ≡ false → Decides false (Q zs)
stops Q splits zs xs ys a same decides fails =
    (λ never. cc, λ whole. absurd (not_from_Decides a decides fails (splits.first xs ys (subst Q same whole))))

pub goes : {X : Type 0} (Q : List X → Type 0) → Splits Q → (zs xs ys : List X) (a b : Bool) → zs ≡ xs ++ ys → Decides a (Q xs) → a ≡ true → Decides b (Q ys) → Decides b (Q zs)
goes Q splits zs xs ys a b same decides holds rest =
    (λ e. subst Q (sym same) (splits.both xs ys (decides.0 holds) (rest.0 e)), λ whole. rest.1 (splits.second xs ys (subst Q same whole)))

-- a fact of a list holds of the whole exactly where it holds of one of the parts
pub record Joins {X : Type 0} (Q : List X → Type 0) : Type 0 where
  pub first : (xs ys : List X) → Q xs → Q (xs ++ ys)
  pub second : (xs ys : List X) → Q ys → Q (xs ++ ys)
  pub cases : (xs ys : List X) → Q (xs ++ ys) → Q xs ⊎ Q ys

pub found : {X : Type 0} (Q : List X → Type 0) → Joins Q → (zs xs ys : List X) (a : Bool) → zs ≡ xs ++ ys → Decides a (Q xs) → a ≡ true → Decides true (Q zs)
found Q joins zs xs ys a same decides holds = (λ _. subst Q (sym same) (joins.first xs ys (decides.0 holds)), λ _. refl)

in_second : {X : Type 0} (Q : List X → Type 0) (xs ys : List X) → ¬ Q xs → Q xs ⊎ Q ys → Q ys
in_second Q xs ys never (inl h) = absurd (never h)
in_second Q xs ys never (inr h) = h

pub seeks : {X : Type 0} (Q : List X → Type 0) → Joins Q → (zs xs ys : List X) (a b : Bool) → zs ≡ xs ++ ys → Decides a (Q xs) → a ≡ false → Decides b (Q ys) → Decides b (Q zs)
seeks Q joins zs xs ys a b same decides fails rest = (
  λ e. subst Q (sym same) (joins.second xs ys (rest.0 e)),
  λ whole. rest.1 (in_second Q xs ys (not_from_Decides a decides fails) (joins.cases xs ys (subst Q same whole))),
)

-- ---- the facts

none_of_first : {X : Type 0} (xs ys : List X) → xs ++ ys ≡ [] → xs ≡ []
none_of_first [] ys none = refl
none_of_first (x ∷ xs) ys none = absurd (cc)

none_of_second : {X : Type 0} (xs ys : List X) → xs ++ ys ≡ [] → ys ≡ []
none_of_second [] ys none = none
none_of_second (x ∷ xs) ys none = absurd (cc)

none_of_both : {X : Type 0} (xs ys : List X) → xs ≡ [] → ys ≡ [] → xs ++ ys ≡ []
none_of_both [] ys a b = b
none_of_both (x ∷ xs) ys a b = absurd (cc)

pub none_splits : {X : Type 0} → Splits (λ (xs : List X). xs ≡ [])
none_splits = record { first = none_of_first; second = none_of_second; both = none_of_both }

pub all_of_first : {X : Type 0} (P : X → Type 0) (xs ys : List X) → All P (xs ++ ys) → All P xs
all_of_first P [] ys all = All-nil P
all_of_first P (x ∷ xs) ys all = All-cons P x xs (All-head P x (xs ++ ys) all) (all_of_first P xs ys (All-tail P x (xs ++ ys) all))

pub all_of_second : {X : Type 0} (P : X → Type 0) (xs ys : List X) → All P (xs ++ ys) → All P ys
all_of_second P [] ys all = all
all_of_second P (x ∷ xs) ys all = all_of_second P xs ys (All-tail P x (xs ++ ys) all)

pub all_splits : {X : Type 0} (P : X → Type 0) → Splits (All P)
all_splits P = record { first = all_of_first P; second = all_of_second P; both = All-append P }

any_of_first : {X : Type 0} (P : X → Type 0) (xs ys : List X) → Any P xs → Any P (xs ++ ys)
any_of_first P xs ys any = let there = Contains-append_left xs ys any.1 (any.0, any.2, any.3) in (there.0, any.1, there.1, there.2, any.4)

any_of_second : {X : Type 0} (P : X → Type 0) (xs ys : List X) → Any P ys → Any P (xs ++ ys)
any_of_second P xs ys any = let there = Contains-append_right xs ys any.1 (any.0, any.2, any.3) in (there.0, any.1, there.1, there.2, any.4)

any_cases : {X : Type 0} (P : X → Type 0) (xs ys : List X) → Any P (xs ++ ys) → Any P xs ⊎ Any P ys
any_cases P xs ys any =
    elim (Contains-append_cases xs ys any.1 (any.0, any.2, any.3)) [
      | inl there ↦ inl (there.0, any.1, there.1, there.2, any.4)
      | inr there ↦ inr (there.0, any.1, there.1, there.2, any.4)
    ]

pub any_joins : {X : Type 0} (P : X → Type 0) → Joins (Any P)
any_joins P = record { first = any_of_first P; second = any_of_second P; cases = any_cases P }

-- ---- a list with one element

pub each_of_one : {X : Type 0} (P : X → Type 0) (x : X) (b : Bool) → Decides b (P x) → Decides b (All P (x ∷ []))
each_of_one P x b decides = (λ e. All-cons P x [] (decides.0 e) (All-nil P), λ all. decides.1 (All-head P x [] all))

pub of_one : {X : Type 0} (P : X → Type 0) (x y : X) (k : ℕ) → k < length (x ∷ []) → get_or (x ∷ []) k y ≡ y → P y → P x
of_one P x y k within is holds =
    let first : k ≡ 0 = omega (arith, within) in
    subst P (sym (subst (λ i. get_or (x ∷ []) i y ≡ y) first is)) holds

pub some_of_one : {X : Type 0} (P : X → Type 0) (x : X) (b : Bool) → Decides b (P x) → Decides b (Any P (x ∷ []))
some_of_one P x b decides =
    (λ e. (0, x, omega arith, refl, decides.0 e), λ any. decides.1 (of_one P x any.1 any.0 any.2 any.3 any.4))

-- ---- the results that a function has on a list

here : {X : Type 0} (P : X → Type 0) (x : X) (xs : List X) → P x → Any P (x ∷ xs)
here P x xs holds = (0, x, omega arith, refl, holds)

following : {X : Type 0} (P : X → Type 0) (x : X) (xs : List X) → Any P xs → Any P (x ∷ xs)
following P x xs any = any_of_second P (x ∷ []) xs any

here_or_after : {X : Type 0} (P : X → Type 0) (x : X) (xs : List X) → Any P (x ∷ xs) → P x ⊎ Any P xs
here_or_after P x xs any =
    elim (any_cases P (x ∷ []) xs any) [
      | inl first ↦ inl (of_one P x first.1 first.0 first.2 first.3 first.4)
      | inr rest ↦ inr rest
    ]

result_at :
    {X Y : Type 0} (h : X → Option Y) (P : Y → Type 0) (x : X) (xs : List X) (o : Option Y) → h x ≡ o
    → (Any P (filter_map h xs) → Any (HasResult h P) xs) → Any P (cons_option o (filter_map h xs)) → Any (HasResult h P) (x ∷ xs)
result_at h P x xs None is rest any = following (HasResult h P) x xs (rest any)
result_at h P x xs (Some y) is rest any =
    elim (here_or_after P y (filter_map h xs) any) [
      | inl first ↦ here (HasResult h P) x xs (y, is, first)
      | inr later ↦ following (HasResult h P) x xs (rest later)
    ]

pub result_of : {X Y : Type 0} (h : X → Option Y) (P : Y → Type 0) (xs : List X) → Any P (filter_map h xs) → Any (HasResult h P) xs
result_of h P [] any = absurd (omega (arith, any.2))
result_of h P (x ∷ xs) any = result_at h P x xs (h x) refl (result_of h P xs) any

more : {Y : Type 0} (P : Y → Type 0) (o : Option Y) (ys : List Y) → Any P ys → Any P (cons_option o ys)
more P None ys any = any
more P (Some y) ys any = following P y ys any

pub result_in : {X Y : Type 0} (h : X → Option Y) (P : Y → Type 0) (xs : List X) → Any (HasResult h P) xs → Any P (filter_map h xs)
result_in h P [] any = absurd (omega (arith, any.2))
result_in h P (x ∷ xs) any =
    elim (here_or_after (HasResult h P) x xs any) [
      | inl first ↦ subst (λ o. Any P (cons_option o (filter_map h xs))) (sym first.1) (here P first.0 (filter_map h xs) first.2)
      | inr rest ↦ more P (h x) (filter_map h xs) (result_in h P xs rest)
    ]
