-- Distinct names with one more.
use Rattle.std.proofs.Common.{◌≡◌, ◌≢◌, ℕ, suc, ◌+◌, Bool, true, false, not, ◌||◌, nat_lt, cond, List, [], ◌∷◌, ◌++◌, length, position, Option, Some, None, arith, sym, ap, ap₂, ◌∙◌, refl, if◌then◌else◌}
use Rattle.std.specs.List.{list_any, prefix_len, position_or_len}
use Rattle.std.specs.Str.{bytes_eq}
use Rattle.std.proofs.lemmas.Slice.Eq.{bytes_eq-Decides}
use Rattle.std.proofs.lemmas.Bool.Decides.{nat_tests}
use Rattle.gt_names.specs.Lists.{with_name}

-- an item passes where the first that passes stands before the end
next_below : (i n : ℕ) → nat_lt i n ≡ nat_lt (1 + i) (suc n)
next_below i n = grind (arith, nat_tests)

below_next : (n : ℕ) → nat_lt n (suc n) ≡ true
below_next n = grind (arith, nat_tests)

one-more : (n : ℕ) → 1 + n ≡ suc n
one-more n = omega arith

any-or : (a b : Bool) (i n : ℕ) → b ≡ nat_lt i n → (a || b) ≡ nat_lt (cond (not a) (1 + i) 0) (suc n)
any-or true b i n e = grind (arith, nat_tests)
any-or false b i n e = e ∙ next_below i n

pub any-position : {X : Type 0} (p : X → Bool) (xs : List X) → list_any p xs ≡ nat_lt (position_or_len p xs) (length xs)
any-position p [] = refl
any-position p (x ∷ xs) = any-or (p x) (list_any p xs) (position_or_len p xs) (length xs) (any-position p xs)

some-true : (b : Bool) (n i : ℕ) → cond b (Some n) None ≡ Some i → b ≡ true
some-true true n i e = refl
some-true false n i e = cc

none-false : (b : Bool) (n : ℕ) → cond b (Some n) None ≡ None → b ≡ false
none-false true n e = cc
none-false false n e = refl

-- what is nothing else is none
pub absent : (o : Option ℕ) → ((i : ℕ) → o ≢ Some i) → o ≡ None
absent None h = refl
absent (Some i) h = absurd (h i refl)

-- what is found is there
found-any : {X : Type 0} (p : X → Bool) (i : ℕ) (xs : List X) → position p xs ≡ Some i → list_any p xs ≡ true
found-any p i xs e = any-position p xs ∙ some-true _ _ i e

-- what is not found is not there
pub absent-any : {X : Type 0} (p : X → Bool) (xs : List X) → position p xs ≡ None → list_any p xs ≡ false
absent-any p xs e = any-position p xs ∙ none-false _ _ e

pub neither : (a b : Bool) → (a || b) ≡ false → (a ≡ false) × (b ≡ false)
neither true b e = absurd (cc)
neither false b e = (refl, e)

-- what is added after items that are others stands at the end
prefix_len-added : {X : Type 0} (p : X → Bool) (y : X) → p y ≡ true → (xs : List X) → list_any p xs ≡ false → prefix_len (λ x. not (p x)) (xs ++ y ∷ []) ≡ length xs
prefix_len-added p y h [] e = ap (λ b. cond (not b) 1 0) h
prefix_len-added p y h (x ∷ xs) e =
    let both = neither (p x) (list_any p xs) e in
    ap₂ (λ b n. cond (not b) (1 + n) 0) both.0 (prefix_len-added p y h xs both.1) ∙ one-more (length xs)

pub length-added : {X : Type 0} (xs : List X) (y : X) → length (xs ++ y ∷ []) ≡ suc (length xs)
length-added [] y = refl
length-added (x ∷ xs) y = ap suc (length-added xs y)

position-added : {X : Type 0} (p : X → Bool) (y : X) → p y ≡ true → (xs : List X) → list_any p xs ≡ false → Some (length xs) ≡ position p (xs ++ y ∷ [])
position-added p y h xs e =
    sym (ap₂ (λ i n. cond (nat_lt i n) (Some i) None) (prefix_len-added p y h xs e) (length-added xs y) ∙ ap (λ b. cond b (Some (length xs)) None) (below_next (length xs)))

-- a name that is found is not added
pub with_name-found : (names : List (List ℕ)) (word : List ℕ) (i : ℕ) → position (λ other. bytes_eq other word) names ≡ Some i → names ≡ with_name names word
with_name-found names word i e = ap (λ b. if b then names else names ++ word ∷ []) (sym (found-any _ i names e))

-- one that is not found is added at the end
pub with_name-pushed : (names : List (List ℕ)) (word : List ℕ) → position (λ other. bytes_eq other word) names ≡ None → names ++ word ∷ [] ≡ with_name names word
with_name-pushed names word none = ap (λ b. if b then names else names ++ word ∷ []) (sym (absent-any _ names none))

-- and stands there
pub position-pushed : (names : List (List ℕ)) (word : List ℕ) → position (λ other. bytes_eq other word) names ≡ None → Some (length names) ≡ position (λ other. bytes_eq other word) (names ++ word ∷ [])
position-pushed names word none = position-added (λ other. bytes_eq other word) word ((bytes_eq-Decides word word).1 refl) names (absent-any _ names none)
