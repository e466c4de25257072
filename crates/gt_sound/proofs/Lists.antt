-- Lists and options in general, and lists of faults that are empty.
use Rattle.std.proofs.Common.{◌≡◌, ℕ, suc, Bool, true, false, List, [], ◌∷◌, ◌++◌, length, map, Option, Some, None, refl, ap, subst, arith, if◌then◌else◌}
use Rattle.std.specs.Prelude.{All, AllPairs, IfSome, find}
use Rattle.std.specs.List.{filter_map, cons_option, flat_map}
use Rattle.std.proofs.lemmas.List.Elements.{All-nil, All-cons, All-head, All-tail, All-append}
use Rattle.std.proofs.lemmas.List.Kept.{AllPairs-cons}
use Rattle.gt_drafts.specs.FirstFaults.{fault_if}

-- ---- no faults

not_nil : {X : Type 0} (x : X) (xs : List X) → x ∷ xs ≡ [] → ⊥
not_nil x xs e = let n : suc (length xs) ≡ 0 = ap (λ ys. length ys) e in omega (arith, n)

pub nil_front : {X : Type 0} (xs ys : List X) → xs ++ ys ≡ [] → xs ≡ []
nil_front [] ys e = refl
nil_front (x ∷ xs) ys e = absurd (not_nil x (xs ++ ys) e)

pub nil_back : {X : Type 0} (xs ys : List X) → xs ++ ys ≡ [] → ys ≡ []
nil_back [] ys e = e
nil_back (x ∷ xs) ys e = absurd (not_nil x (xs ++ ys) e)

pub no_fault : (b : Bool) (number file at : ℕ) → fault_if b number file at ≡ [] → b ≡ false
no_fault true number file at e = absurd (not_nil _ [] e)
no_fault false number file at e = refl

-- ---- each element

pub All-and : {X : Type 0} (P Q : X → Type 0) (xs : List X) → All P xs → All Q xs → All (λ x. P x × Q x) xs
All-and P Q xs p q k d l = (p k d l, q k d l)

pub All-of_map : {X Y : Type 0} (P : Y → Type 0) (f : X → Y) (xs : List X) → All P (map f xs) → All (λ x. P (f x)) xs
All-of_map P f [] h = All-nil (λ x. P (f x))
All-of_map P f (x ∷ xs) h =
    All-cons (λ y. P (f y)) x xs (All-head P (f x) (map f xs) h) (All-of_map P f xs (All-tail P (f x) (map f xs) h))

-- ---- each pair

pub AllPairs-nil : {X : Type 0} (R : X → X → Type 0) → AllPairs R []
AllPairs-nil R i j d lt within = absurd (omega (arith, within))

pub pairs_head : {X : Type 0} (R : X → X → Type 0) (x : X) (xs : List X) → AllPairs R (x ∷ xs) → All (R x) xs
pairs_head R x xs h k d l = h 0 (suc k) d (omega arith) (omega (arith, l))

pub pairs_tail : {X : Type 0} (R : X → X → Type 0) (x : X) (xs : List X) → AllPairs R (x ∷ xs) → AllPairs R xs
pairs_tail R x xs h i j d lt within = h (suc i) (suc j) d (omega (arith, lt)) (omega (arith, within))

pub AllPairs-append : {X : Type 0} (R : X → X → Type 0) (xs ys : List X) → AllPairs R xs → AllPairs R ys → All (λ x. All (R x) ys) xs → AllPairs R (xs ++ ys)
AllPairs-append R [] ys a b c = b
AllPairs-append R (x ∷ xs) ys a b c =
    AllPairs-cons R x (xs ++ ys)
    (All-append (R x) xs ys (pairs_head R x xs a) (All-head (λ z. All (R z) ys) x xs c))
    (AllPairs-append R xs ys (pairs_tail R x xs a) b (All-tail (λ z. All (R z) ys) x xs c))

pub AllPairs-of_map : {X Y : Type 0} (R : Y → Y → Type 0) (f : X → Y) (xs : List X) → AllPairs R (map f xs) → AllPairs (λ a b. R (f a) (f b)) xs
AllPairs-of_map R f [] h = AllPairs-nil (λ a b. R (f a) (f b))
AllPairs-of_map R f (x ∷ xs) h =
    AllPairs-cons (λ a b. R (f a) (f b)) x xs
    (All-of_map (R (f x)) f xs (pairs_head R (f x) (map f xs) h))
    (AllPairs-of_map R f xs (pairs_tail R (f x) (map f xs) h))

-- ---- what is filtered

pub All-cons_option : {A : Type 0} (Q : A → Type 0) (found : Option A) (rest : List A) → IfSome found Q → All Q rest → All Q (cons_option found rest)
All-cons_option Q None rest one all = all
All-cons_option Q (Some a) rest one all = All-cons Q a rest one all

pub All-filtered : {A X : Type 0} (P : X → Type 0) (Q : A → Type 0) (h : X → Option A) (xs : List X) → ((x : X) → P x → IfSome (h x) Q) → All P xs → All Q (filter_map h xs)
All-filtered P Q h [] gives all = All-nil Q
All-filtered P Q h (x ∷ xs) gives all =
    All-cons_option Q (h x) (filter_map h xs) (gives x (All-head P x xs all)) (All-filtered P Q h xs gives (All-tail P x xs all))

pub All-flattened : {A X : Type 0} (P : X → Type 0) (Q : A → Type 0) (h : X → List A) (xs : List X) → ((x : X) → P x → All Q (h x)) → All P xs → All Q (flat_map h xs)
All-flattened P Q h [] gives all = All-nil Q
All-flattened P Q h (x ∷ xs) gives all =
    All-append Q (h x) (flat_map h xs) (gives x (All-head P x xs all)) (All-flattened P Q h xs gives (All-tail P x xs all))

-- ---- options

pub IfSome-if : {A : Type 0} (P : A → Type 0) (b : Bool) (o u : Option A) → IfSome o P → IfSome u P → IfSome (if b then o else u) P
IfSome-if P true o u h k = h
IfSome-if P false o u h k = k

pub IfSome-find : {A : Type 0} (P : A → Type 0) (p : A → Bool) (xs : List A) → All P xs → IfSome (find p xs) P
IfSome-find P p [] all = tt
IfSome-find P p (x ∷ xs) all = IfSome-if P (p x) (Some x) (find p xs) (All-head P x xs all) (IfSome-find P p xs (All-tail P x xs all))

pub IfSome-at : {A : Type 0} (P : A → Type 0) (o : Option A) (a : A) → o ≡ Some a → IfSome o P → P a
IfSome-at P o a e h = subst (λ u. IfSome u P) e h
