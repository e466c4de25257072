-- The numbers of hashes: where there are none, after one more, and of all names from a place on.
use Rattle.std.proofs.Common.{◌≡◌, ◌≢◌, ◌∙◌, ℕ, zero, suc, ◌+◌, Bool, true, false, cond, not, nat_lt, List, [], ◌∷◌, ◌++◌, length, replicate, Option, Some, None, position, refl, sym, ap, ap₂, arith, ⊎_elim}
use Rattle.std.specs.Prelude.{◌==◌, slice_get, slice_set}
use Rattle.std.specs.List.{position_or_len}
use Rattle.std.specs.Option.{option_or}
use Rattle.std.specs.Ordering.{nat_cmp}
use Rattle.std.specs.Map.{lookup}
use Rattle.std.specs.BTreeMap.{BTreeMap, get, is_at}
use Rattle.std.specs.Cmp.{unsigned_ties}
use Rattle.std.proofs.lemmas.Bool.{cases_eq, eqb-true}
use Rattle.std.proofs.lemmas.Bool.Decides.{nat_tests}
use Rattle.gt_names.specs.declared.places.Numbered.{Numbered}
use Rattle.gt_names.specs.Places.{place_number, number_at, number_in, first_from, is_free, AreTaken}

-- ---- no numbers

none_at : (count place : ℕ) (others : BTreeMap ℕ ℕ) (hash : ℕ) → number_at (slice_get (replicate count None) place) others hash ≡ None
none_at zero place others hash = refl
none_at (suc count) zero others hash = refl
none_at (suc count) (suc place) others hash = none_at count place others hash

-- free places have no number
pub none_in : (places : List (Option Numbered)) (others : BTreeMap ℕ ℕ) (count hash : ℕ) → places ≡ replicate count None → number_in places others hash ≡ None
none_in places others count hash free =
    ap (λ ps. number_at (slice_get ps (place_number hash (length places))) others hash) free ∙ none_at count (place_number hash (length places)) others hash

-- and nothing is hidden where there are no others
pub taken_empty : (places : List (Option Numbered)) (others : BTreeMap ℕ ℕ) → others.entries ≡ [] → AreTaken places others
taken_empty places others empty = λ hash free. ap (lookup (is_at (nat_cmp hash))) empty

-- ---- one more hash

get-set_same : {X : Type 0} (xs : List X) (i : ℕ) (x y : X) → slice_get xs i ≡ Some x → slice_get (slice_set xs i y) i ≡ Some y
get-set_same [] i x y h = cc
get-set_same (z ∷ xs) zero x y h = refl
get-set_same (z ∷ xs) (suc i) x y h = get-set_same xs i x y h

get-set_other : {X : Type 0} (xs : List X) (i j : ℕ) (y : X) → i ≢ j → slice_get (slice_set xs i y) j ≡ slice_get xs j
get-set_other [] i j y h = refl
get-set_other (z ∷ xs) zero zero y h = absurd (h refl)
get-set_other (z ∷ xs) zero (suc j) y h = refl
get-set_other (z ∷ xs) (suc i) zero y h = refl
get-set_other (z ∷ xs) (suc i) (suc j) y h = get-set_other xs i j y (λ e. h (ap suc e))

length-set : {X : Type 0} (xs : List X) (i : ℕ) (y : X) → length (slice_set xs i y) ≡ length xs
length-set [] i y = refl
length-set (x ∷ xs) zero y = refl
length-set (x ∷ xs) (suc i) y = ap suc (length-set xs i y)

pub not_true : (b : Bool) → (b ≡ true → ⊥) → b ≡ false
not_true true h = absurd (h refl)
not_true false h = refl

different : (hash other : ℕ) → hash ≢ other → (hash == other) ≡ false
different hash other h = not_true (hash == other) (λ e. h (eqb-true hash other e))

same_hash : (hash : ℕ) → (hash == hash) ≡ true
same_hash hash = grind (arith, nat_tests)

-- ---- one more at its place

freed : (old : Option Numbered) (others : BTreeMap ℕ ℕ) (hash other number : ℕ) (b : Bool) → (hash == other) ≡ b → is_free old hash ≡ true
    → (old ≡ None → get nat_cmp others other ≡ None) → cond b (Some number) (get nat_cmp others other) ≡ cond b (Some number) (number_at (Some old) others other)
freed old others hash other number true e free hidden = refl
freed None others hash other number false e free hidden = hidden refl
freed (Some n) others hash other number false e free hidden =
    sym (ap (λ b. cond b (Some n.number) (get nat_cmp others other)) (ap (λ h. h == other) (eqb-true n.hash hash free) ∙ e))

-- a hash stands at its place
pub put_free : (places : List (Option Numbered)) (others : BTreeMap ℕ ℕ) (old : Option Numbered) (new : Numbered) (place : ℕ)
    → place ≡ place_number new.hash (length places) → slice_get places place ≡ Some old → is_free old new.hash ≡ true → AreTaken places others
    → (other : ℕ) → number_in (slice_set places place (Some new)) others other ≡ cond (new.hash == other) (Some new.number) (number_in places others other)
put_free places others old new place at has free taken other =
    ap (λ count. number_at (slice_get (slice_set places place (Some new)) (place_number other count)) others other) (length-set places place (Some new))
    ∙ ⊎_elim
    (λ (same : place ≡ place_number other (length places)).
    let here : slice_get places (place_number other (length places)) ≡ Some old = ap (slice_get places) (sym same) ∙ has in
    ap (λ i. number_at (slice_get (slice_set places place (Some new)) i) others other) (sym same)
    ∙ ap (λ o. number_at o others other) (get-set_same places place old (Some new) has)
    ∙ ap (λ b. cond b (Some new.number) (get nat_cmp others other)) refl
    ∙ freed_there old new other free (λ none. taken other (here ∙ ap Some none))
    ∙ ap (λ o. cond (new.hash == other) (Some new.number) (number_at o others other)) (sym here))
    (λ (apart : place ≢ place_number other (length places)).
    ap (λ o. number_at o others other) (get-set_other places place (place_number other (length places)) (Some new) apart)
    ∙ ap (λ b. cond b (Some new.number) (number_in places others other)) (sym (different new.hash other (λ e. apart (at ∙ ap (λ h. place_number h (length places)) e)))))
    (cases_eq place (place_number other (length places)))
  where
    freed_there : (old : Option Numbered) (new : Numbered) (other : ℕ) → is_free old new.hash ≡ true → (old ≡ None → get nat_cmp others other ≡ None)
        → cond (new.hash == other) (Some new.number) (get nat_cmp others other) ≡ cond (new.hash == other) (Some new.number) (number_at (Some old) others other)
    freed_there old new other free hidden = freed old others new.hash other new.number (new.hash == other) refl free hidden

pub taken_free : (places : List (Option Numbered)) (others : BTreeMap ℕ ℕ) (old : Option Numbered) (new : Numbered) (place : ℕ)
    → slice_get places place ≡ Some old → AreTaken places others → AreTaken (slice_set places place (Some new)) others
taken_free places others old new place has taken = λ hash free.
    let free_there : slice_get (slice_set places place (Some new)) (place_number hash (length places)) ≡ Some None =
    ap (λ count. slice_get (slice_set places place (Some new)) (place_number hash count)) (sym (length-set places place (Some new))) ∙ free in
    ⊎_elim
    (λ (same : place ≡ place_number hash (length places)).
    absurd (never (sym (get-set_same places place old (Some new) has) ∙ ap (slice_get (slice_set places place (Some new))) same ∙ free_there)))
    (λ (apart : place ≢ place_number hash (length places)).
    taken hash (sym (get-set_other places place (place_number hash (length places)) (Some new) apart) ∙ free_there))
    (cases_eq place (place_number hash (length places)))
  where
    never : Some (Some new) ≡ Some None → ⊥
    never h = cc

-- ---- one more among the others

same_others : (o : Option (Option Numbered)) (others more : BTreeMap ℕ ℕ) (other : ℕ) → get nat_cmp more other ≡ get nat_cmp others other
    → number_at o more other ≡ number_at o others other
same_others None others more other h = refl
same_others (Some None) others more other h = refl
same_others (Some (Some n)) others more other h = ap (cond (n.hash == other) (Some n.number)) h

behind : (old : Option Numbered) (others : BTreeMap ℕ ℕ) (hash : ℕ) → is_free old hash ≡ false → number_at (Some old) others hash ≡ get nat_cmp others hash
behind None others hash free = absurd (cc)
behind (Some n) others hash free = ap (λ b. cond b (Some n.number) (get nat_cmp others hash)) free

module _ (places : List (Option Numbered)) (others more : BTreeMap ℕ ℕ) (old : Option Numbered) (place hash number : ℕ)
    (at : place ≡ place_number hash (length places)) (has : slice_get places place ≡ Some old) (free : is_free old hash ≡ false)
    (puts : (q : ℕ) → get nat_cmp more q ≡ cond (is_at (nat_cmp hash) q) (Some number) (get nat_cmp others q)) where
  puts_case : (other : ℕ) (b : Bool) → (hash == other) ≡ b → get nat_cmp more other ≡ cond b (Some number) (get nat_cmp others other)
  puts_case other b e = puts other ∙ ap (λ b. cond b (Some number) (get nat_cmp others other)) (sym (unsigned_ties hash other) ∙ e)

  here : (other : ℕ) → hash ≡ other → slice_get places (place_number other (length places)) ≡ Some old
  here other e = ap (λ h. slice_get places (place_number h (length places))) (sym e) ∙ ap (slice_get places) (sym at) ∙ has

  taken_case : (other : ℕ) (b : Bool) → (hash == other) ≡ b → number_in places more other ≡ cond b (Some number) (number_in places others other)
  taken_case other true e =
      let same : hash ≡ other = eqb-true hash other e in
      ap (λ o. number_at o more other) (here other same) ∙ behind old more other (ap (is_free old) (sym same) ∙ free) ∙ puts_case other true e
  taken_case other false e = same_others (slice_get places (place_number other (length places))) others more other (puts_case other false e)

  -- a hash whose place is taken is among the others
  pub put_taken : (other : ℕ) → number_in places more other ≡ cond (hash == other) (Some number) (number_in places others other)
  put_taken other = taken_case other (hash == other) refl

  not_none : (o : Option Numbered) → is_free o hash ≡ false → Some o ≡ Some None → ⊥
  not_none None f e = cc
  not_none (Some n) f e = cc

  still_case : (other : ℕ) (b : Bool) → (hash == other) ≡ b → AreTaken places others → slice_get places (place_number other (length places)) ≡ Some None → get nat_cmp more other ≡ None
  still_case other true e taken none = absurd (not_none old free (sym (here other (eqb-true hash other e)) ∙ none))
  still_case other false e taken none = puts_case other false e ∙ taken other none

  pub taken_taken : AreTaken places others → AreTaken places more
  taken_taken taken = λ other none. still_case other (hash == other) refl taken none

-- ---- names from a place on

next_below : (i n : ℕ) → nat_lt i n ≡ nat_lt (1 + i) (suc n)
next_below i n = grind (arith, nat_tests)

first_found : (b : Bool) (k i n : ℕ) (o : Option ℕ) → o ≡ cond (nat_lt i n) (Some (suc k + i)) None
    → cond b (Some k) o ≡ cond (nat_lt (cond (not b) (1 + i) 0) (suc n)) (Some (k + cond (not b) (1 + i) 0)) None
first_found true k i n o h = grind (arith, nat_tests)
first_found false k i n o h =
    let later : suc k + i ≡ k + (1 + i) = omega arith in
    h ∙ ap₂ (λ b j. cond b (Some j) None) (next_below i n) later

first_at : {X : Type 0} (p : X → Bool) (xs : List X) (k : ℕ) → first_from p xs k ≡ cond (nat_lt (position_or_len p xs) (length xs)) (Some (k + position_or_len p xs)) None
first_at p [] k = refl
first_at p (x ∷ xs) k = first_found (p x) k (position_or_len p xs) (length xs) (first_from p xs (suc k)) (first_at p xs (suc k))

-- from the first place on
pub first_of_all : {X : Type 0} (p : X → Bool) (xs : List X) → first_from p xs 0 ≡ position p xs
first_of_all p xs =
    let same : 0 + position_or_len p xs ≡ position_or_len p xs = omega arith in
    first_at p xs 0 ∙ ap (λ i. cond (nat_lt (position_or_len p xs) (length xs)) (Some i) None) same

first_push_step : (b : Bool) (k : ℕ) (o o' e : Option ℕ) → o' ≡ option_or o e → cond b (Some k) o' ≡ option_or (cond b (Some k) o) e
first_push_step true k o o' e h = refl
first_push_step false k o o' e h = h

first_push : {X : Type 0} (p : X → Bool) (xs : List X) (y : X) (k n : ℕ) → n ≡ k + length xs
    → first_from p (xs ++ y ∷ []) k ≡ option_or (first_from p xs k) (cond (p y) (Some n) None)
first_push p [] y k n h = let same : k ≡ n = omega arith in ap (λ i. cond (p y) (Some i) None) same
first_push p (x ∷ xs) y k n h =
    let next : n ≡ suc k + length xs = omega arith in
    first_push_step (p x) k (first_from p xs (suc k)) (first_from p (xs ++ y ∷ []) (suc k)) (cond (p y) (Some n) None) (first_push p xs y (suc k) n next)

-- the first of items with one more
pub position_push : {X : Type 0} (p : X → Bool) (xs : List X) (y : X) (n : ℕ) → n ≡ length xs
    → position p (xs ++ y ∷ []) ≡ option_or (position p xs) (cond (p y) (Some n) None)
position_push p xs y n h =
    let count : n ≡ 0 + length xs = omega arith in
    sym (first_of_all p (xs ++ y ∷ [])) ∙ first_push p xs y 0 n count ∙ ap (λ o. option_or o (cond (p y) (Some n) None)) (first_of_all p xs)
