-- Lists in general, and lists of faults that are empty.
use Rattle.std.proofs.Common.{◌≡◌, ◌∙◌, ℕ, zero, suc, ◌<◌, Bool, true, false, not, List, [], ◌∷◌, ◌++◌, length, map, Option, Some, None, refl, sym, ap, subst, get_or, arith}
use Rattle.std.specs.Prelude.{All, AllPairs, Contains, slice_get, filter_map}
use Rattle.std.specs.List.{cons_option, flat_map}
use Rattle.std.proofs.lemmas.List.Elements.{All-nil, All-cons, All-head, All-tail}
use Rattle.std.proofs.lemmas.List.Kept.{AllPairs-cons}
use Rattle.std.proofs.lemmas.Option.{none-some, same_Some, slice_get_within, slice_get-get_or, get_or_from_slice_get}
use Rattle.gt_drafts.specs.FirstFaults.{fault_if}
use Rattle.gt_drafts.specs.Shapes.{is_nil}

-- ---- no faults

not_nil : {X : Type 0} (x : X) (xs : List X) → x ∷ xs ≡ [] → ⊥
not_nil x xs e = let n : suc (length xs) ≡ 0 = ap (λ ys. length ys) e in omega (arith, n)

pub nil_front : {X : Type 0} (xs ys : List X) → xs ++ ys ≡ [] → xs ≡ []
nil_front [] ys e = refl
nil_front (x ∷ xs) ys e = absurd (not_nil x (xs ++ ys) e)

pub nil_back : {X : Type 0} (xs ys : List X) → xs ++ ys ≡ [] → ys ≡ []
nil_back [] ys e = e
nil_back (x ∷ xs) ys e = absurd (not_nil x (xs ++ ys) e)

pub no_fault : (b : Bool) (number file at : ℕ) → fault_if b number file at ≡ [] → b ≡ false
no_fault true number file at e = absurd (not_nil _ [] e)
no_fault false number file at e = refl

pub is_not : (b : Bool) → not b ≡ false → b ≡ true
is_not true e = refl
is_not false e = absurd (cc)

pub none_there : {X : Type 0} (xs : List X) → ((x : X) → ¬ Contains xs x) → xs ≡ []
none_there [] none = refl
none_there (x ∷ xs) none = absurd (none x (0, omega arith, refl))

pub each_nil : {X Y : Type 0} (f : X → List Y) (xs : List X) → flat_map f xs ≡ [] → All (λ x. f x ≡ []) xs
each_nil f [] e = All-nil (λ x. f x ≡ [])
each_nil f (x ∷ xs) e = All-cons (λ x. f x ≡ []) x xs (nil_front (f x) (flat_map f xs) e) (each_nil f xs (nil_back (f x) (flat_map f xs) e))

pub nil_of : {X : Type 0} (xs : List X) → is_nil xs ≡ true → xs ≡ []
nil_of [] e = refl
nil_of (x ∷ xs) e = absurd (cc)

-- ---- what is at a place

pub at_place : {X : Type 0} (P : X → Type 0) (xs : List X) (k : ℕ) (x : X) → All P xs → slice_get xs k ≡ Some x → P x
at_place P xs k x all e = subst P (get_or_from_slice_get xs k x x e) (all k x (slice_get_within xs k x e))

pub all_places : {X : Type 0} (P : X → Type 0) (xs : List X) → ((k : ℕ) (x : X) → slice_get xs k ≡ Some x → P x) → All P xs
all_places P xs each k d within = each k (get_or xs k d) (slice_get-get_or xs k d within)

pub place_of : {X : Type 0} (xs : List X) (x : X) → Contains xs x → (k : ℕ) × (slice_get xs k ≡ Some x)
place_of xs x (k, within, e) = (k, slice_get-get_or xs k x within ∙ ap (λ y. Some y) e)

pub in_list : {X : Type 0} (xs : List X) (k : ℕ) (x : X) → slice_get xs k ≡ Some x → Contains xs x
in_list xs k x e = (k, slice_get_within xs k x e, get_or_from_slice_get xs k x x e)

pub in_tail : {X : Type 0} (y : X) (xs : List X) (x : X) → Contains xs x → Contains (y ∷ xs) x
in_tail y xs x (k, within, e) = (suc k, omega (arith, within), e)

pub in_head : {X : Type 0} (x : X) (xs : List X) → Contains (x ∷ xs) x
in_head x xs = (0, omega arith, refl)

-- pairs by places
pub pairs_at : {X : Type 0} (R : X → X → Type 0) (xs : List X) (i j : ℕ) (x y : X) → AllPairs R xs → i < j → slice_get xs i ≡ Some x → slice_get xs j ≡ Some y → R x y
pairs_at R xs i j x y all lower a b =
    subst (λ z. R z y) (get_or_from_slice_get xs i x x a)
    (subst (λ z. R (get_or xs i x) z) (get_or_from_slice_get xs j y x b) (all i j x lower (slice_get_within xs j y b)))

pub all_pairs : {X : Type 0} (R : X → X → Type 0) (xs : List X) → ((i j : ℕ) (x y : X) → i < j → slice_get xs i ≡ Some x → slice_get xs j ≡ Some y → R x y) → AllPairs R xs
all_pairs R xs each i j d lower within =
    each i j (get_or xs i d) (get_or xs j d) lower (slice_get-get_or xs i d (omega (arith, lower, within))) (slice_get-get_or xs j d within)

pub pairs_nil : {X : Type 0} (R : X → X → Type 0) → AllPairs R []
pairs_nil R i j d lower within = absurd (omega (arith, within))

pub pairs_head : {X : Type 0} (R : X → X → Type 0) (x : X) (xs : List X) → AllPairs R (x ∷ xs) → All (R x) xs
pairs_head R x xs h k d l = h 0 (suc k) d (omega arith) (omega (arith, l))

pub pairs_tail : {X : Type 0} (R : X → X → Type 0) (x : X) (xs : List X) → AllPairs R (x ∷ xs) → AllPairs R xs
pairs_tail R x xs h i j d lt within = h (suc i) (suc j) d (omega (arith, lt)) (omega (arith, within))

-- ---- what is filtered

in_either : {A : Type 0} (o : Option A) (xs : List A) (a : A) → Contains xs a → Contains (cons_option o xs) a
in_either None xs a there = there
in_either (Some b) xs a there = in_tail b xs a there

pub in_filtered : {A X : Type 0} (h : X → Option A) (xs : List X) (x : X) (a : A) → Contains xs x → h x ≡ Some a → Contains (filter_map h xs) a
in_filtered h [] x a there e = let inside = there.1 in absurd (omega (arith, inside))
in_filtered h (y ∷ xs) x a (zero, within, is) e = subst (λ o. Contains (cons_option o (filter_map h xs)) a) (sym (ap h is ∙ e)) (in_head a (filter_map h xs))
in_filtered h (y ∷ xs) x a (suc k, within, is) e = in_either (h y) (filter_map h xs) a (in_filtered h xs x a (k, omega (arith, within), is) e)

all_option : {A : Type 0} (Q : A → Type 0) (o : Option A) (xs : List A) → ((a : A) → o ≡ Some a → Q a) → All Q xs → All Q (cons_option o xs)
all_option Q None xs one all = all
all_option Q (Some a) xs one all = All-cons Q a xs (one a refl) all

pub all_filtered : {A X : Type 0} (P : X → Type 0) (Q : A → Type 0) (h : X → Option A) (xs : List X) → ((x : X) (a : A) → P x → h x ≡ Some a → Q a) → All P xs → All Q (filter_map h xs)
all_filtered P Q h [] gives all = All-nil Q
all_filtered P Q h (x ∷ xs) gives all =
    all_option Q (h x) (filter_map h xs) (λ a e. gives x a (All-head P x xs all) e) (all_filtered P Q h xs gives (All-tail P x xs all))

pairs_option : {A : Type 0} (S : A → A → Type 0) (o : Option A) (xs : List A) → ((a : A) → o ≡ Some a → All (S a) xs) → AllPairs S xs → AllPairs S (cons_option o xs)
pairs_option S None xs one all = all
pairs_option S (Some a) xs one all = AllPairs-cons S a xs (one a refl) all

pub pairs_filtered : {A X : Type 0} (R : X → X → Type 0) (S : A → A → Type 0) (h : X → Option A) (xs : List X)
    → ((x y : X) (a b : A) → R x y → h x ≡ Some a → h y ≡ Some b → S a b) → AllPairs R xs → AllPairs S (filter_map h xs)
pairs_filtered R S h [] gives all = pairs_nil S
pairs_filtered R S h (x ∷ xs) gives all =
    pairs_option S (h x) (filter_map h xs) (λ a e. all_filtered (R x) (S a) h xs (λ y b r f. gives x y a b r e f) (pairs_head R x xs all))
    (pairs_filtered R S h xs gives (pairs_tail R x xs all))

-- ---- what is made of each

pub map_at : {X Y : Type 0} (f : X → Y) (xs : List X) (k : ℕ) (y : Y) → slice_get (map f xs) k ≡ Some y → (x : X) × (slice_get xs k ≡ Some x) × (y ≡ f x)
map_at f [] k y e = absurd (none-some y e)
map_at f (x ∷ xs) zero y e = (x, refl, sym (same_Some (f x) y e))
map_at f (x ∷ xs) (suc k) y e = map_at f xs k y e

pub pairs_map : {X Y : Type 0} (R : Y → Y → Type 0) (f : X → Y) (xs : List X) → AllPairs (λ a b. R (f a) (f b)) xs → AllPairs R (map f xs)
pairs_map R f xs all =
    all_pairs R (map f xs) (λ i j x y lower a b.
    let one = map_at f xs i x a in let two = map_at f xs j y b in
    subst (λ z. R z y) (sym one.2) (subst (λ z. R (f one.0) z) (sym two.2) (pairs_at (λ a b. R (f a) (f b)) xs i j one.0 two.0 all lower one.1 two.1)))

pub map_map : {X Y Z : Type 0} (g : Y → Z) (f : X → Y) (xs : List X) → map g (map f xs) ≡ map (λ x. g (f x)) xs
map_map g f [] = refl
map_map g f (x ∷ xs) = ap (λ zs. g (f x) ∷ zs) (map_map g f xs)
