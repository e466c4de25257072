-- Values by name: where the first of a name stands, and one more.
use Rattle.std.proofs.Common.{◌≡◌, ℕ, suc, ◌+◌, ℤ, Bool, true, false, not, ◌||◌, cond, List, [], ◌∷◌, ◌++◌, length, position, Option, Some, None, is_some, slice_get, arith, sym, ap, ap₂, ◌∙◌, refl, if◌then◌else◌}
use Rattle.std.specs.List.{list_any, position_or_len}
use Rattle.std.specs.Str.{bytes_eq}
use Rattle.std.proofs.lemmas.Slice.Eq.{bytes_eq-Decides}
use Rattle.gt_names.specs.Entries.{first_some}
use Rattle.gt_scope.specs.FirstValues.{value_named, first_value}
use Rattle.gt_names.specs.Lists.{with_name}
use Rattle.gt_names.proofs.NameLists.{any-position, absent-any, neither, length-added}

next-item : {X : Type 0} (x : X) (xs : List X) (i : ℕ) → slice_get (x ∷ xs) (1 + i) ≡ slice_get xs i
next-item x xs i = let e : 1 + i ≡ suc i = omega arith in ap (λ k. slice_get (x ∷ xs) k) e

value-step : (b : Bool) (v : ℤ) (vs : List ℤ) (rest : Option ℤ) (i : ℕ) → rest ≡ slice_get vs i
    → first_some (if b then Some v else None) rest ≡ slice_get (v ∷ vs) (cond (not b) (1 + i) 0)
value-step true v vs rest i e = refl
value-step false v vs rest i e = e ∙ sym (next-item v vs i)

-- the value stands where the first of its names does
first_value-position : (word : List ℕ) (names : List (List ℕ)) (values : List ℤ) → length names ≡ length values
    → first_value names values word ≡ slice_get values (position_or_len (λ other. bytes_eq other word) names)
first_value-position word [] [] h = refl
first_value-position word [] (v ∷ vs) h = absurd (omega arith)
first_value-position word (n ∷ ns) [] h = absurd (omega arith)
first_value-position word (n ∷ ns) (v ∷ vs) h =
    value-step (bytes_eq n word) v vs (first_value ns vs word) (position_or_len (λ other. bytes_eq other word) ns) (first_value-position word ns vs (omega arith))

place-found : (b : Bool) (n i : ℕ) → cond b (Some n) None ≡ Some i → n ≡ i
place-found true n i e = cc
place-found false n i e = cc

pub first_value-found : (word : List ℕ) (names : List (List ℕ)) (values : List ℤ) (i : ℕ) → length names ≡ length values
    → position (λ other. bytes_eq other word) names ≡ Some i → slice_get values i ≡ first_value names values word
first_value-found word names values i h e =
    ap (slice_get values) (sym (place-found _ _ i e)) ∙ sym (first_value-position word names values h)

-- without the name there is no value
first_value-none : (word : List ℕ) (names : List (List ℕ)) (values : List ℤ) → list_any (λ other. bytes_eq other word) names ≡ false → first_value names values word ≡ None
first_value-none word [] values e = refl
first_value-none word (n ∷ ns) [] e = refl
first_value-none word (n ∷ ns) (v ∷ vs) e =
    let both = neither (bytes_eq n word) (list_any (λ other. bytes_eq other word) ns) e in
    ap₂ (λ b rest. first_some (if b then Some v else None) rest) both.0 (first_value-none word ns vs both.1)

pub first_value-absent : (word : List ℕ) (names : List (List ℕ)) (values : List ℤ) → position (λ other. bytes_eq other word) names ≡ None → None ≡ first_value names values word
first_value-absent word names values e = sym (first_value-none word names values (absent-any _ names e))

pub some-or-none : {A : Type 0} (x : Option A) → first_some x None ≡ x
some-or-none None = refl
some-or-none (Some x) = refl

pub first_some-assoc : {A : Type 0} (a b c : Option A) → first_some a (first_some b c) ≡ first_some (first_some a b) c
first_some-assoc None b c = refl
first_some-assoc (Some x) b c = refl

-- one more name and its value
first_value-more : (name : List ℕ) (value : ℤ) (word : List ℕ) (names : List (List ℕ)) (values : List ℤ) → length names ≡ length values
    → first_value (names ++ name ∷ []) (values ++ value ∷ []) word ≡ first_some (first_value names values word) (value_named name value word)
first_value-more name value word [] [] h = some-or-none (value_named name value word)
first_value-more name value word [] (v ∷ vs) h = absurd (omega arith)
first_value-more name value word (n ∷ ns) [] h = absurd (omega arith)
first_value-more name value word (n ∷ ns) (v ∷ vs) h =
    ap (first_some (value_named n v word)) (first_value-more name value word ns vs (omega arith))
    ∙ first_some-assoc (value_named n v word) (first_value ns vs word) (value_named name value word)

-- a value of a name that is there already changes nothing
after-other : (name n word : List ℕ) (value : ℤ) (rest : Option ℤ) → bytes_eq n name ≡ true → bytes_eq n word ≡ false → rest ≡ first_some rest (value_named name value word)
after-other name n word value rest same other =
    sym (ap (λ b. first_some rest (if b then Some value else None)) (ap (λ (x : List ℕ). bytes_eq x word) (sym ((bytes_eq-Decides n name).0 same)) ∙ other) ∙ some-or-none rest)

module _ (name word : List ℕ) (value : ℤ) where
  known-step : (n : List ℕ) (v : ℤ) (rest : Option ℤ) (b c : Bool) → bytes_eq n word ≡ b → bytes_eq n name ≡ c → (c ≡ false → rest ≡ first_some rest (value_named name value word))
      → first_some (if b then Some v else None) rest ≡ first_some (first_some (if b then Some v else None) rest) (value_named name value word)
  known-step n v rest true c e f more = refl
  known-step n v rest false true e f more = after-other name n word value rest f e
  known-step n v rest false false e f more = more refl

  rest-any : (c b : Bool) → (c || b) ≡ true → c ≡ false → b ≡ true
  rest-any true b e f = absurd (cc)
  rest-any false b e f = e

  first_value-known : (names : List (List ℕ)) (values : List ℤ) → length names ≡ length values → list_any (λ other. bytes_eq other name) names ≡ true
      → first_value names values word ≡ first_some (first_value names values word) (value_named name value word)
  first_value-known [] values h e = absurd (cc)
  first_value-known (n ∷ ns) [] h e = absurd (omega arith)
  first_value-known (n ∷ ns) (v ∷ vs) h e =
      known-step n v (first_value ns vs word) (bytes_eq n word) (bytes_eq n name) refl refl
      (λ f. first_value-known ns vs (omega arith) (rest-any (bytes_eq n name) (list_any (λ other. bytes_eq other name) ns) e f))

is_some-test : (b : Bool) (n : ℕ) → is_some (cond b (Some n) None) ≡ b
is_some-test true n = refl
is_some-test false n = refl

-- whether the name is there
pub is_some-position : (name : List ℕ) (names : List (List ℕ)) → list_any (λ other. bytes_eq other name) names ≡ is_some (position (λ other. bytes_eq other name) names)
is_some-position name names = any-position (λ other. bytes_eq other name) names ∙ sym (is_some-test _ _)

-- the name is there, and its value stays
pub present : (name : List ℕ) (value : ℤ) (names : List (List ℕ)) (values : List ℤ) → length names ≡ length values → is_some (position (λ other. bytes_eq other name) names) ≡ true
    → (word : List ℕ) → first_value names values word ≡ first_some (first_value names values word) (value_named name value word)
present name value names values h e word = first_value-known name word value names values h (is_some-position name names ∙ e)

name-added : (name : List ℕ) (names : List (List ℕ)) → is_some (position (λ other. bytes_eq other name) names) ≡ false → with_name names name ≡ names ++ name ∷ []
name-added name names e = ap (λ b. if b then names else names ++ name ∷ []) (is_some-position name names ∙ e)

-- the name is new, and its value is added
pub added : (name : List ℕ) (value : ℤ) (names more : List (List ℕ)) (values : List ℤ) → length names ≡ length values → is_some (position (λ other. bytes_eq other name) names) ≡ false
    → more ≡ with_name names name → (word : List ℕ) → first_value more (values ++ value ∷ []) word ≡ first_some (first_value names values word) (value_named name value word)
added name value names more values h e is word =
    ap (λ (all : List (List ℕ)). first_value all (values ++ value ∷ []) word) (is ∙ name-added name names e)
    ∙ first_value-more name value word names values h

-- and there are still as many of both
pub lengths : (name : List ℕ) (value : ℤ) (names more : List (List ℕ)) (values : List ℤ) → length names ≡ length values → is_some (position (λ other. bytes_eq other name) names) ≡ false
    → more ≡ with_name names name → length more ≡ length (values ++ value ∷ [])
lengths name value names more values h e is =
    ap length (is ∙ name-added name names e) ∙ length-added names name ∙ ap suc h ∙ sym (length-added values value)
