-- A word, and what follows it, are read back from the left: no byte of a word is one that ends it.
use Rattle.std.proofs.Common.{◌≡◌, ℕ, ◌<◌, Bool, true, false, not, ◌||◌, ◌==◌, List, [], ◌∷◌, ◌++◌, get_or, drop, refl, sym, ap, ap₂, ◌∙◌, subst, arith, append_assoc, inl, inr, eqb-true}
use Rattle.std.specs.List.{list_all}
use Rattle.std.specs.Prelude.{encode_utf8_all}
use Rattle.std.proofs.lemmas.Bool.{and_parts, or_left, both_ways, not-true, or_cases, true≢false}
use Rattle.std.proofs.lemmas.Str.{encode_same, char_from_byte}
use Rattle.gt_types.specs.Names.{is_name_character}
use lib.Utf8.{encode}

-- a space (32), a newline (10) or a closing bracket (41) ends an expression; a dot (46) ends a name too
abbrev pub is_end : ℕ → Bool
is_end c = (c == 32) || (c == 10) || (c == 41)

abbrev pub is_stop : ℕ → Bool
is_stop c = is_end c || (c == 46)

abbrev pub starts_with_one : (ℕ → Bool) → List ℕ → Bool
starts_with_one test [] = false
starts_with_one test (c ∷ cs) = test c

abbrev pub ends : List ℕ → Bool
ends = starts_with_one is_end

abbrev pub stops : List ℕ → Bool
stops = starts_with_one is_stop

-- a byte of a word
abbrev pub is_plain : ℕ → Bool
is_plain c = not (is_stop c)

pub stops-ends : (s : List ℕ) → ends s ≡ true → stops s ≡ true
stops-ends [] e = e
stops-ends (c ∷ s) e = or_left (is_end c) (c == 46) e

-- ---- lists that begin alike

pub same_head : (c d : ℕ) (xs ys : List ℕ) → c ∷ xs ≡ d ∷ ys → c ≡ d
same_head c d xs ys e = ap (λ (l : List ℕ). get_or l 0 0) e

pub same_tail : (c d : ℕ) (xs ys : List ℕ) → c ∷ xs ≡ d ∷ ys → xs ≡ ys
same_tail c d xs ys e = ap (λ (l : List ℕ). drop 1 l) e

-- ---- words of bytes

stop_not_plain : (c : ℕ) (s r : List ℕ) → s ≡ c ∷ r → stops s ≡ true → is_plain c ≡ true → ⊥
stop_not_plain c s r e stop plain = both_ways (is_stop c) (not-true (is_stop c) plain) (subst (λ l. stops l ≡ true) e stop)

pub same_words :
    (w v s t : List ℕ) → list_all is_plain w ≡ true → list_all is_plain v ≡ true → stops s ≡ true → stops t ≡ true → w ++ s ≡ v ++ t
    → (w ≡ v) × (s ≡ t)
same_words [] [] s t pw pv es et e = (refl, e)
same_words [] (c ∷ v) s t pw pv es et e = absurd (stop_not_plain c s (v ++ t) e es (and_parts _ _ pv).0)
same_words (c ∷ w) [] s t pw pv es et e = absurd (stop_not_plain c t (w ++ s) (sym e) et (and_parts _ _ pw).0)
same_words (c ∷ w) (d ∷ v) s t pw pv es et e =
    let rest = same_words w v s t (and_parts _ _ pw).1 (and_parts _ _ pv).1 es et (same_tail c d (w ++ s) (v ++ t) e) in
    (ap₂ (λ (x : ℕ) (xs : List ℕ). x ∷ xs) (same_head c d (w ++ s) (v ++ t) e) rest.0, rest.1)

-- ---- names in UTF-8

name_not_stop : (c : ℕ) → is_name_character c ≡ true → is_stop c ≡ true → ⊥
name_not_stop c name stop = elim (or_cases _ _ stop) [
  | inl e ↦ elim (or_cases _ _ e) [
    | inl e ↦ elim (or_cases _ _ e) [
      | inl e ↦ true≢false (sym (subst (λ n. is_name_character n ≡ true) (eqb-true c 32 e) name))
      | inr e ↦ true≢false (sym (subst (λ n. is_name_character n ≡ true) (eqb-true c 10 e) name))
    ]
    | inr e ↦ true≢false (sym (subst (λ n. is_name_character n ≡ true) (eqb-true c 41 e) name))
  ]
  | inr e ↦ true≢false (sym (subst (λ n. is_name_character n ≡ true) (eqb-true c 46 e) name))
]

stop_small : (d : ℕ) → is_stop d ≡ true → d < 128
stop_small d stop = elim (or_cases _ _ stop) [
  | inl e ↦ elim (or_cases _ _ e) [
    | inl e ↦ elim (or_cases _ _ e) [
      | inl e ↦ omega (arith, eqb-true d 32 e)
      | inr e ↦ omega (arith, eqb-true d 10 e)
    ]
    | inr e ↦ omega (arith, eqb-true d 41 e)
  ]
  | inr e ↦ omega (arith, eqb-true d 46 e)
]

-- a text that begins with a character of a name does not stop
name_goes_on : (c : ℕ) (s r : List ℕ) → is_name_character c ≡ true → s ≡ encode c ++ r → stops s ≡ true → ⊥
name_goes_on c [] r name e stop = true≢false (sym stop)
name_goes_on c (d ∷ s) r name e stop =
    let same : c ≡ d = char_from_byte (d ∷ s) r c e (stop_small d stop) (omega arith) in
    name_not_stop c name (subst (λ n. is_stop n ≡ true) (sym same) stop)

pub same_names :
    (w v s t : List ℕ) → list_all is_name_character w ≡ true → list_all is_name_character v ≡ true → stops s ≡ true → stops t ≡ true
    → encode_utf8_all w ++ s ≡ encode_utf8_all v ++ t → (w ≡ v) × (s ≡ t)
same_names [] [] s t pw pv es et e = (refl, e)
same_names [] (c ∷ v) s t pw pv es et e =
    absurd (name_goes_on c s (encode_utf8_all v ++ t) (and_parts _ _ pv).0 (e ∙ append_assoc (encode c) (encode_utf8_all v) t) es)
same_names (c ∷ w) [] s t pw pv es et e =
    absurd (name_goes_on c t (encode_utf8_all w ++ s) (and_parts _ _ pw).0 (sym e ∙ append_assoc (encode c) (encode_utf8_all w) s) et)
same_names (c ∷ w) (d ∷ v) s t pw pv es et e =
    let first =
    encode_same c d (encode_utf8_all w ++ s) (encode_utf8_all v ++ t)
    (sym (append_assoc (encode c) (encode_utf8_all w) s) ∙ e ∙ append_assoc (encode d) (encode_utf8_all v) t) in
    let rest = same_names w v s t (and_parts _ _ pw).1 (and_parts _ _ pv).1 es et first.1 in
    (ap₂ (λ (x : ℕ) (xs : List ℕ). x ∷ xs) first.0 rest.0, rest.1)
