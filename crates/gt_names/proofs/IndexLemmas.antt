-- Names that are indexed by their hashes, with one more name.
use Rattle.std.proofs.Common.{◌≡◌, ◌∙◌, ℕ, zero, suc, ◌<◌, Bool, true, false, cond, List, [], ◌∷◌, ◌++◌, length, Option, Some, None, position, refl, sym, ap, ap₂, subst, arith}
use Rattle.std.specs.Prelude.{◌==◌, slice_get}
use Rattle.std.specs.Option.{option_or}
use Rattle.std.specs.Ordering.{nat_cmp}
use Rattle.std.specs.Str.{bytes_eq}
use Rattle.std.specs.BTreeMap.{BTreeMap, get, is_at}
use Rattle.std.specs.Cmp.Lexicographic.{slice_cmp, texts_ties}
use Rattle.std.proofs.lemmas.Bool.{eqb-true}
use Rattle.std.proofs.lemmas.Bool.Decides.{nat_tests}
use Rattle.std.proofs.lemmas.List.Quantifiers.{position-Some}
use Rattle.std.proofs.lemmas.Slice.Eq.{bytes_eq-Decides}
use Rattle.gt_names.specs.declared.places.Numbered.{Numbered}
use Rattle.gt_names.specs.Places.{hash_number, number_in, AreTaken, first_with, place_of, place_at, AreIndexed}
use Rattle.gt_names.proofs.PlaceLemmas.{position_push}

same_word : (word : List ℕ) → bytes_eq word word ≡ true
same_word word = (bytes_eq-Decides word word).1 refl

or_none : (o : Option ℕ) → option_or o None ≡ o
or_none None = refl
or_none (Some i) = refl

left_none : (o e : Option ℕ) → option_or o e ≡ None → o ≡ None
left_none None e h = refl
left_none (Some i) e h = cc

-- ---- the items of a list with one more

get-before : {X : Type 0} (xs : List X) (y : X) (i : ℕ) → i < length xs → slice_get (xs ++ y ∷ []) i ≡ slice_get xs i
get-before [] y i h = absurd (omega arith)
get-before (x ∷ xs) y zero h = refl
get-before (x ∷ xs) y (suc i) h = let within : i < length xs = omega arith in get-before xs y i within

get-last : {X : Type 0} (xs : List X) (y : X) → slice_get (xs ++ y ∷ []) (length xs) ≡ Some y
get-last [] y = refl
get-last (x ∷ xs) y = get-last xs y

-- ---- the first name with a hash

with_more : (names : List (List ℕ)) (name : List ℕ) (hash n : ℕ) → n ≡ length names
    → first_with (names ++ name ∷ []) hash ≡ option_or (first_with names hash) (cond (hash_number name == hash) (Some n) None)
with_more names name hash n count = position_push (λ other. hash_number other == hash) names name n count

-- a name that is another is not found at the end
other_after : (names : List (List ℕ)) (name word : List ℕ) (n : ℕ) (o e : Option ℕ) → n ≡ length names → bytes_eq name word ≡ false
    → first_with names (hash_number word) ≡ o → (b : Bool) → e ≡ cond b (Some n) None
    → place_at (names ++ name ∷ []) word (option_or o e) ≡ place_at names word o
other_after names name word n (Some i) e count apart is b h =
    ap (λ other. place_of other word i)
    (get-before names name i (position-Some (λ other. hash_number other == hash_number word) names i [] is).0)
other_after names name word n None e count apart is true h =
    ap (place_at (names ++ name ∷ []) word) h
    ∙ ap (λ i. place_of (slice_get (names ++ name ∷ []) i) word n) count
    ∙ ap (λ other. place_of other word n) (get-last names name)
    ∙ ap (λ b. cond b (Some n) None) apart
other_after names name word n None e count apart is false h = ap (place_at (names ++ name ∷ []) word) h

other_found : (names : List (List ℕ)) (name word : List ℕ) (n : ℕ) → n ≡ length names → bytes_eq name word ≡ false
    → place_at (names ++ name ∷ []) word (first_with (names ++ name ∷ []) (hash_number word)) ≡ place_at names word (first_with names (hash_number word))
other_found names name word n count apart =
    ap (place_at (names ++ name ∷ []) word) (with_more names name (hash_number word) n count)
    ∙ other_after names name word n (first_with names (hash_number word)) (cond (hash_number name == hash_number word) (Some n) None) count apart refl
    (hash_number name == hash_number word) refl

-- where the others are
other_position : (names : List (List ℕ)) (name word : List ℕ) (n : ℕ) → n ≡ length names → bytes_eq name word ≡ false
    → position (λ other. bytes_eq other word) (names ++ name ∷ []) ≡ position (λ other. bytes_eq other word) names
other_position names name word n count apart =
    position_push (λ other. bytes_eq other word) names name n count
    ∙ ap (λ b. option_or (position (λ other. bytes_eq other word) names) (cond b (Some n) None)) apart
    ∙ or_none (position (λ other. bytes_eq other word) names)

-- the new name stands at the end
new_position : (names : List (List ℕ)) (name : List ℕ) (n : ℕ) → n ≡ length names → position (λ other. bytes_eq other name) names ≡ None
    → position (λ other. bytes_eq other name) (names ++ name ∷ []) ≡ Some n
new_position names name n count new =
    position_push (λ other. bytes_eq other name) names name n count
    ∙ ap₂ (λ o b. option_or o (cond b (Some n) None)) new (same_word name)

-- ---- a name whose hash is new

pub first_of_new : (names : List (List ℕ)) (name : List ℕ) (hash n : ℕ) (o : Option ℕ) → n ≡ length names
    → first_with names (hash_number name) ≡ None → o ≡ first_with names hash
    → cond (hash_number name == hash) (Some n) o ≡ first_with (names ++ name ∷ []) hash
first_of_new names name hash n o count new is = first_case (hash_number name == hash) refl
  where
    first_case : (b : Bool) → (hash_number name == hash) ≡ b → cond (hash_number name == hash) (Some n) o ≡ first_with (names ++ name ∷ []) hash
    first_case true e =
        ap (λ b. cond b (Some n) o) e
        ∙ sym (with_more names name hash n count
        ∙ ap₂ (λ o b. option_or o (cond b (Some n) None)) (ap (first_with names) (sym (eqb-true (hash_number name) hash e)) ∙ new) e)
    first_case false e =
        ap (λ b. cond b (Some n) o) e ∙ is
        ∙ sym (with_more names name hash n count ∙ ap (λ b. option_or (first_with names hash) (cond b (Some n) None)) e ∙ or_none (first_with names hash))

same_hash : (hash : ℕ) → (hash == hash) ≡ true
same_hash hash = grind (arith, nat_tests)

found_new : (names : List (List ℕ)) (name : List ℕ) (n : ℕ) → n ≡ length names → first_with names (hash_number name) ≡ None
    → place_at (names ++ name ∷ []) name (first_with (names ++ name ∷ []) (hash_number name)) ≡ Some n
found_new names name n count new =
    ap (place_at (names ++ name ∷ []) name)
    (with_more names name (hash_number name) n count ∙ ap₂ (λ o b. option_or o (cond b (Some n) None)) new (same_hash (hash_number name)))
    ∙ ap (λ i. place_of (slice_get (names ++ name ∷ []) i) name n) count
    ∙ ap (λ other. place_of other name n) (get-last names name)
    ∙ ap (λ b. cond b (Some n) None) (same_word name)

-- names with one more, whose hash is new
pub indexed_new : (places more : List (Option Numbered)) (others more_others : BTreeMap ℕ ℕ) (crowded : BTreeMap (List ℕ) ℕ) (names : List (List ℕ)) (name : List ℕ) (n : ℕ)
    → AreIndexed places others crowded names → n ≡ length names → position (λ other. bytes_eq other name) names ≡ None → number_in places others (hash_number name) ≡ None
    → ((other : ℕ) → number_in more more_others other ≡ cond (hash_number name == other) (Some n) (number_in places others other))
    → AreTaken more more_others → AreIndexed more more_others crowded (names ++ name ∷ [])
indexed_new places more others more_others crowded names name n are count new free puts taken = record {
  taken = taken;
  first = λ hash. puts hash ∙ first_of_new names name hash n (number_in places others hash) count none (are.first hash);
  found = λ word. found_case word (bytes_eq name word) refl;
}
  where
    none : first_with names (hash_number name) ≡ None
    none = sym (are.first (hash_number name)) ∙ free

    at_name : option_or (get (slice_cmp nat_cmp) crowded name) (place_at (names ++ name ∷ []) name (first_with (names ++ name ∷ []) (hash_number name)))
        ≡ position (λ other. bytes_eq other name) (names ++ name ∷ [])
    at_name =
        ap₂ option_or (left_none (get (slice_cmp nat_cmp) crowded name) (place_at names name (first_with names (hash_number name))) (are.found name ∙ new))
        (found_new names name n count none)
        ∙ sym (new_position names name n count new)

    found_case : (word : List ℕ) (b : Bool) → bytes_eq name word ≡ b
        → option_or (get (slice_cmp nat_cmp) crowded word) (place_at (names ++ name ∷ []) word (first_with (names ++ name ∷ []) (hash_number word)))
        ≡ position (λ other. bytes_eq other word) (names ++ name ∷ [])
    found_case word true e =
        subst (λ w. option_or (get (slice_cmp nat_cmp) crowded w) (place_at (names ++ name ∷ []) w (first_with (names ++ name ∷ []) (hash_number w)))
        ≡ position (λ other. bytes_eq other w) (names ++ name ∷ [])) ((bytes_eq-Decides name word).0 e) at_name
    found_case word false e =
        ap (option_or (get (slice_cmp nat_cmp) crowded word)) (other_found names name word n count e)
        ∙ are.found word ∙ sym (other_position names name word n count e)

first_of_taken : (names : List (List ℕ)) (name : List ℕ) (hash n j : ℕ) → n ≡ length names → first_with names (hash_number name) ≡ Some j
    → first_with names hash ≡ first_with (names ++ name ∷ []) hash
first_of_taken names name hash n j count taken = first_case (hash_number name == hash) refl
  where
    first_case : (b : Bool) → (hash_number name == hash) ≡ b → first_with names hash ≡ first_with (names ++ name ∷ []) hash
    first_case true e =
        let is : first_with names hash ≡ Some j = ap (first_with names) (sym (eqb-true (hash_number name) hash e)) ∙ taken in
        is ∙ sym (with_more names name hash n count ∙ ap (λ o. option_or o (cond (hash_number name == hash) (Some n) None)) is)
    first_case false e =
        sym (with_more names name hash n count ∙ ap (λ b. option_or (first_with names hash) (cond b (Some n) None)) e ∙ or_none (first_with names hash))

-- names with one more, whose hash another has
pub indexed_crowded : (places : List (Option Numbered)) (others : BTreeMap ℕ ℕ) (crowded more : BTreeMap (List ℕ) ℕ) (names : List (List ℕ)) (name : List ℕ) (n j : ℕ)
    → AreIndexed places others crowded names → n ≡ length names → position (λ other. bytes_eq other name) names ≡ None → number_in places others (hash_number name) ≡ Some j
    → ((q : List ℕ) → get (slice_cmp nat_cmp) more q ≡ cond (is_at (slice_cmp nat_cmp name) q) (Some n) (get (slice_cmp nat_cmp) crowded q))
    → AreIndexed places others more (names ++ name ∷ [])
indexed_crowded places others crowded more names name n j are count new has puts = record {
  taken = are.taken;
  first = λ hash. are.first hash ∙ first_of_taken names name hash n j count (sym (are.first (hash_number name)) ∙ has);
  found = λ word. found_case word (bytes_eq name word) refl;
}
  where
    put : (word : List ℕ) (b : Bool) → bytes_eq name word ≡ b → get (slice_cmp nat_cmp) more word ≡ cond b (Some n) (get (slice_cmp nat_cmp) crowded word)
    put word b e = puts word ∙ ap (λ b. cond b (Some n) (get (slice_cmp nat_cmp) crowded word)) (sym (texts_ties name word) ∙ e)

    found_case : (word : List ℕ) (b : Bool) → bytes_eq name word ≡ b
        → option_or (get (slice_cmp nat_cmp) more word) (place_at (names ++ name ∷ []) word (first_with (names ++ name ∷ []) (hash_number word)))
        ≡ position (λ other. bytes_eq other word) (names ++ name ∷ [])
    found_case word true e =
        ap (λ o. option_or o (place_at (names ++ name ∷ []) word (first_with (names ++ name ∷ []) (hash_number word)))) (put word true e)
        ∙ sym (ap (λ w. position (λ other. bytes_eq other w) (names ++ name ∷ [])) (sym ((bytes_eq-Decides name word).0 e)) ∙ new_position names name n count new)
    found_case word false e =
        ap₂ option_or (put word false e) (other_found names name word n count e)
        ∙ are.found word ∙ sym (other_position names name word n count e)
