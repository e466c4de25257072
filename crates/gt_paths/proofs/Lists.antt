-- Lists of which some element, each element or each pair of elements is looked at.
use Rattle.std.proofs.Common.{◌≡◌, ℕ, suc, ◌+◌, ◌<◌, ◌≤◌, ◌-◌, Bool, true, false, List, [], ◌∷◌, length, get_or, take, drop, ap, sym, subst, ◌∙◌, arith, refl}
use Rattle.std.specs.Prelude.{All, AllPairs, Any}
use Rattle.std.specs.Bool.{Decides}
use Rattle.std.proofs.lemmas.Bool.Decides.{not_from_Decides}
use Rattle.std.proofs.lemmas.List.{get_or_default, take_all}
use Rattle.std.proofs.lemmas.List.Elements.{All-more, All-contains, All-get_or}
use Rattle.std.proofs.lemmas.List.Kept.{AllPairs-cons}

-- ---- each element: a loop that ends where one has not the property

-- all were looked at
pub all_seen : {X : Type 0} (P : X → Type 0) (xs : List X) (i : ℕ) → length xs ≤ i → All P (take i xs) → Decides true (All P xs)
all_seen P xs i past all = (λ _. subst (All P) (take_all i xs past) all, λ _. refl)

-- the next has it too
pub all_more : {X : Type 0} (P : X → Type 0) (xs : List X) (i : ℕ) (x : X) → i < length xs → x ≡ get_or xs i x → All P (take i xs) → P x → All P (take (i + 1) xs)
all_more P xs i x within is all holds = All-more P xs i x within all (subst P is holds)

-- the item at a place has it too
pub all_further : {X : Type 0} (P : X → Type 0) (xs : List X) (i : ℕ) (d : X) → i < length xs → All P (take i xs) → P (get_or xs i d) → All P (take (i + 1) xs)
all_further P xs i d within all holds = All-more P xs i (get_or xs i d) within all (subst P (get_or_default xs i d (get_or xs i d) within) holds)

-- the item at a place has it not
pub one_lacks : {X : Type 0} (P : X → Type 0) (xs : List X) (i : ℕ) (d : X) (b : Bool) → i < length xs → Decides b (P (get_or xs i d)) → b ≡ false → Decides false (All P xs)
one_lacks P xs i d b within decides fails = (λ never. cc, λ all. absurd (not_from_Decides b decides fails (all i d within)))

-- one has it not
pub one_fails :
    {X : Type 0} (P : X → Type 0) (xs : List X) (i : ℕ) (x : X) (b : Bool) → i < length xs → x ≡ get_or xs i x → Decides b (P x) → b ≡ false
    → Decides false (All P xs)
one_fails P xs i x b within is decides fails =
    (λ never. cc, λ all. absurd (not_from_Decides b decides fails (subst P (sym is) (All-get_or P xs i x within all))))

-- ---- some element: a loop that ends where one has the property

-- the next has it not
pub none_more :
    {X : Type 0} (P : X → Type 0) (xs : List X) (i : ℕ) (x : X) (b : Bool) → i < length xs → x ≡ get_or xs i x → All (λ y. ¬ P y) (take i xs)
    → Decides b (P x) → b ≡ false → All (λ y. ¬ P y) (take (i + 1) xs)
none_more P xs i x b within is none decides fails = all_more (λ y. ¬ P y) xs i x within is none (not_from_Decides b decides fails)

-- none has it
pub none_seen : {X : Type 0} (P : X → Type 0) (xs : List X) (i : ℕ) → length xs ≤ i → All (λ x. ¬ P x) (take i xs) → Decides false (Any P xs)
none_seen P xs i past none =
    let all = subst (All (λ x. ¬ P x)) (take_all i xs past) none in
    (λ never. cc, λ any. absurd (All-contains (λ x. ¬ P x) xs any.1 all (any.0, any.2, any.3) any.4))

-- one has it
pub one_holds :
    {X : Type 0} (P : X → Type 0) (xs : List X) (i : ℕ) (x : X) (b : Bool) → i < length xs → x ≡ get_or xs i x → Decides b (P x) → b ≡ true
    → Decides true (Any P xs)
one_holds P xs i x b within is decides holds = (λ _. (i, x, within, sym is, decides.0 holds), λ _. refl)

-- ---- pairs: a loop that goes to the rest of the list

pub pairs-head : {X : Type 0} (R : X → X → Type 0) (x : X) (xs : List X) → AllPairs R (x ∷ xs) → All (R x) xs
pairs-head R x xs pairs k d within = pairs 0 (suc k) d (omega arith) (omega (arith, within))

pub pairs-tail : {X : Type 0} (R : X → X → Type 0) (x : X) (xs : List X) → AllPairs R (x ∷ xs) → AllPairs R xs
pairs-tail R x xs pairs i j d before within = pairs (suc i) (suc j) d (omega (arith, before)) (omega (arith, within))

-- the list without its first element
abbrev pub rest_of : {X : Type 0} → List X → List X
rest_of xs = take (length xs - 1) (drop 1 xs)

pub rest_of-cons : {X : Type 0} (x : X) (xs : List X) → rest_of (x ∷ xs) ≡ xs
rest_of-cons x xs =
    let e : length (x ∷ xs) - 1 ≡ length xs = omega arith in
    ap (λ n. take n xs) e ∙ take_all (length xs) xs (omega arith)

-- the pairs of the list are as they should be exactly where those of the rest are
abbrev pub IsLeft : {X : Type 0} → (X → X → Type 0) → List X → List X → Type 0
IsLeft R xs rest = (AllPairs R rest → AllPairs R xs) × (AllPairs R xs → AllPairs R rest)

-- the first is as it should be with each after it: the pairs after it are left
pub goes_on :
    {X : Type 0} (R : X → X → Type 0) (xs rest : List X) (x : X) (b : Bool) → 1 ≤ length rest → x ≡ get_or rest 0 x
    → Decides b (All (R x) (rest_of rest)) → b ≡ true → IsLeft R xs rest → IsLeft R xs (rest_of rest)
goes_on R xs [] x b some is decides holds left = absurd (omega (arith, some))
goes_on R xs (y ∷ ys) x b some is decides holds left =
    let same = rest_of-cons y ys in
    let each = subst (All (R y)) same (subst (λ z. All (R z) (rest_of (y ∷ ys))) is (decides.0 holds)) in
    subst (IsLeft R xs) (sym same) ((λ h. left.0 (AllPairs-cons R y ys each h)), (λ h. pairs-tail R y ys (left.1 h)))

-- it is not
pub stops :
    {X : Type 0} (R : X → X → Type 0) (xs rest : List X) (x : X) (b : Bool) → 1 ≤ length rest → x ≡ get_or rest 0 x
    → Decides b (All (R x) (rest_of rest)) → b ≡ false → IsLeft R xs rest → Decides false (AllPairs R xs)
stops R xs [] x b some is decides fails left = absurd (omega (arith, some))
stops R xs (y ∷ ys) x b some is decides fails left = (
  λ never. cc,
  λ pairs.
      absurd (not_from_Decides b decides fails
      (subst (λ z. All (R z) (rest_of (y ∷ ys))) (sym is) (subst (All (R y)) (sym (rest_of-cons y ys)) (pairs-head R y ys (left.1 pairs))))),
)

-- no pair is left
pub ends : {X : Type 0} (R : X → X → Type 0) (xs rest : List X) → length rest < 1 → IsLeft R xs rest → Decides true (AllPairs R xs)
ends R xs rest none left = (λ _. left.0 (λ i j d before within. absurd (omega (arith, before, within, none))), λ _. refl)
