-- Lists that are written out, and what a test says of each element with its place.
use Rattle.std.proofs.Common.{◌≡◌, ℕ, zero, suc, ◌+◌, Bool, true, false, ◌&&◌, not, List, [], ◌∷◌, ap, subst, ◌∙◌, arith, refl}
use Rattle.std.specs.Prelude.{Some, slice_get, All, AllPairs, Any, Contains}
use Rattle.std.proofs.lemmas.List.Elements.{All-from_recursion}
use Rattle.std.proofs.lemmas.List.Kept.{AllPairs-cons}
use Rattle.std.proofs.lemmas.Option.{slice_get-get_or}

-- both parts of a test that passes
pub both : (a b : Bool) → (a && b) ≡ true → (a ≡ true) × (b ≡ true)
both true b h = (refl, h)
both false b h = absurd (cc)

-- a test of each element with its place, counted from i
abbrev pub all_from : {X : Type 0} → (ℕ → X → Bool) → ℕ → List X → Bool
all_from p i [] = true
all_from p i (x ∷ xs) = p i x && all_from p (suc i) xs

pub at_place : {X : Type 0} (p : ℕ → X → Bool) (i : ℕ) (xs : List X) → all_from p i xs ≡ true → (k : ℕ) (x : X) → slice_get xs k ≡ Some x → p (i + k) x ≡ true
at_place p i [] all k x is = absurd (cc)
at_place p i (y ∷ ys) all zero x is =
    let same : y ≡ x = cc in
    let place : i ≡ i + 0 = omega arith in
    subst (λ j. p j x ≡ true) place (subst (λ z. p i z ≡ true) same (both (p i y) (all_from p (suc i) ys) all).0)
at_place p i (y ∷ ys) all (suc k) x is =
    let place : suc i + k ≡ i + suc k = omega arith in
    subst (λ j. p j x ≡ true) place (at_place p (suc i) ys (both (p i y) (all_from p (suc i) ys) all).1 k x is)

-- what a list contains stands at a place
pub place_of : {X : Type 0} (xs : List X) (x : X) → Contains xs x → (k : ℕ) × (slice_get xs k ≡ Some x)
place_of xs x c = (c.0, slice_get-get_or xs c.0 x c.1 ∙ ap Some c.2)

-- a test of each element says it of what the list contains
pub of_contained : {X : Type 0} (p : X → Bool) (xs : List X) → all_from (λ i x. p x) 0 xs ≡ true → (x : X) → Contains xs x → p x ≡ true
of_contained p xs all x c = let at = place_of xs x c in at_place (λ i y. p y) 0 xs all at.0 x at.1

-- nothing is in a list without elements
pub none_in : {X : Type 0} (P : X → Type 0) → ¬ Any P []
none_in P any = absurd (omega (arith, any.2))

-- two elements
pub pair : {X : Type 0} (R : X → X → Type 0) (a b : X) → R a b → AllPairs R (a ∷ b ∷ [])
pair R a b r =
    AllPairs-cons R a (b ∷ []) (All-from_recursion (R a) (b ∷ []) (r, tt)) (AllPairs-cons R b [] (All-from_recursion (R b) [] tt) (λ i j d lt within. absurd (omega (arith, within))))

-- three elements
pub three : {X : Type 0} (R : X → X → Type 0) (a b c : X) → R a b → R a c → R b c → AllPairs R (a ∷ b ∷ c ∷ [])
three R a b c ab ac bc = AllPairs-cons R a (b ∷ c ∷ []) (All-from_recursion (R a) (b ∷ c ∷ []) (ab, (ac, tt))) (pair R b c bc)

-- no two elements agree, by a test that finds two that are the same
abbrev pub all_differ : {X : Type 0} → (X → X → Bool) → List X → Bool
all_differ same [] = true
all_differ same (x ∷ xs) = all_from (λ i y. not (same x y)) 0 xs && all_differ same xs

differs_each : {X : Type 0} (same : X → X → Bool) (R : X → X → Type 0) → ((x y : X) → not (same x y) ≡ true → R x y) → (x : X) (i : ℕ) (ys : List X)
    → all_from (λ i y. not (same x y)) i ys ≡ true → All (R x) ys
differs_each same R told x i [] h = All-from_recursion (R x) [] tt
differs_each same R told x i (y ∷ ys) h =
    let parts = both (not (same x y)) (all_from (λ i y. not (same x y)) (suc i) ys) h in
    All-more (R x) y ys (told x y parts.0) (differs_each same R told x (suc i) ys parts.1)
  where
    All-more : {X : Type 0} (P : X → Type 0) (x : X) (xs : List X) → P x → All P xs → All P (x ∷ xs)
    All-more P x xs p all zero d h = p
    All-more P x xs p all (suc k) d h = all k d (omega (arith, h))

pub differ : {X : Type 0} (same : X → X → Bool) (R : X → X → Type 0) → ((x y : X) → not (same x y) ≡ true → R x y) → (xs : List X) → all_differ same xs ≡ true → AllPairs R xs
differ same R told [] h = λ i j d lt within. absurd (omega (arith, within))
differ same R told (x ∷ xs) h =
    let parts = both (all_from (λ i y. not (same x y)) 0 xs) (all_differ same xs) h in
    AllPairs-cons R x xs (differs_each same R told x 0 xs parts.0) (differ same R told xs parts.1)

-- the same for a fact of each element
abbrev pub AllFrom : {X : Type 0} → (ℕ → X → Type 0) → ℕ → List X → Type 0
AllFrom P i [] = Unit {0}
AllFrom P i (x ∷ xs) = P i x × AllFrom P (suc i) xs

pub fact_at : {X : Type 0} (P : ℕ → X → Type 0) (i : ℕ) (xs : List X) → AllFrom P i xs → (k : ℕ) (x : X) → slice_get xs k ≡ Some x → P (i + k) x
fact_at P i [] all k x is = absurd (cc)
fact_at P i (y ∷ ys) all zero x is =
    let same : y ≡ x = cc in
    let place : i ≡ i + 0 = omega arith in
    subst (λ j. P j x) place (subst (P i) same all.0)
fact_at P i (y ∷ ys) all (suc k) x is =
    let place : suc i + k ≡ i + suc k = omega arith in
    subst (λ j. P j x) place (fact_at P (suc i) ys all.1 k x is)

-- counted from the first
pub at_index : {X : Type 0} (p : ℕ → X → Bool) (xs : List X) → all_from p 0 xs ≡ true → (k : ℕ) (x : X) → slice_get xs k ≡ Some x → p k x ≡ true
at_index p xs all k x is = let place : 0 + k ≡ k = omega arith in subst (λ j. p j x ≡ true) place (at_place p 0 xs all k x is)

pub fact_of : {X : Type 0} (P : ℕ → X → Type 0) (xs : List X) → AllFrom P 0 xs → (k : ℕ) (x : X) → slice_get xs k ≡ Some x → P k x
fact_of P xs all k x is = let place : 0 + k ≡ k = omega arith in subst (λ j. P j x) place (fact_at P 0 xs all k x is)
