-- A number in decimal is a word that is read as that number.
use Rattle.std.proofs.Common.{◌≡◌, ◌≢◌, ℕ, zero, suc, ◌+◌, ◌*◌, ◌<◌, ◌≤◌, ◌^◌, Bool, true, false, not, eqb, leb, ltb, List, [], ◌∷◌, length, map, get_or, refl, sym, ap, ap₂, ◌∙◌, arith}
use Rattle.std.specs.Prelude.{◌&&◌, ◌==◌, codes}
use Rattle.std.specs.List.{list_all, fold}
use Rattle.std.specs.Char.{digit_char, digit_value, is_digit}
use Rattle.std.specs.Int.Digits.{digits_of, number_from_digits, AllBelowBase}
use Rattle.std.specs.Str.Parse.{digits_value_after}
use Rattle.std.proofs.lemmas.Bool.{and_parts, and_from, ne_eqb, leb-true, lt-ltb, cond-false, agree_below_at, eqb-true}
use Rattle.std.proofs.lemmas.List.{length-map}
use Rattle.std.proofs.lemmas.Int.Digits.{digits_value_is, all_below_base_digits_of, number_digits_of, first_digits_of, length-digits_of_step}
use Rattle.gt_text.specs.Integer.{value_of}
use Rattle.gt_digits.specs.Digits.{decimal}
use Rattle.gt_split.specs.Texts.{is_blank, leads_with_zero}
use Rattle.gt_script.specs.Language.{IsPlain, IsDecimal}
use Rattle.gt_written.proofs.Adding.{is_inner}

-- ---- digits

abbrev is_figure : ℕ → Bool
is_figure c = is_digit c 10 && (leb 48 c && leb c 57)

figure : (d : ℕ) → d < 10 → is_figure (digit_char d) ≡ true
figure d small = agree_below_at (λ n. is_figure (digit_char n)) (λ n. true) 10 d refl small

figures : (ds : List ℕ) → AllBelowBase 10 ds → list_all is_figure (map digit_char ds) ≡ true
figures [] below = refl
figures (d ∷ ds) below = and_from _ _ (figure d below.0) (figures ds below.1)

read_back : (d : ℕ) → d < 10 → (digit_value (digit_char d) == d) ≡ true
read_back d small = agree_below_at (λ n. digit_value (digit_char n) == n) (λ n. true) 10 d refl small

all_read_back : (ds : List ℕ) → AllBelowBase 10 ds → map digit_value (map digit_char ds) ≡ ds
all_read_back [] below = refl
all_read_back (d ∷ ds) below = ap₂ (λ (x : ℕ) (xs : List ℕ). x ∷ xs) (eqb-true _ _ (read_back d below.0)) (all_read_back ds below.1)

no_zero : (d : ℕ) → d < 10 → 0 < d → eqb (digit_char d) 48 ≡ false
no_zero zero small some = absurd (omega arith)
no_zero (suc d) small some = agree_below_at (λ n. eqb (digit_char (suc n)) 48) (λ n. false) 9 d refl (omega arith)

no_zero_leads : (ds : List ℕ) → AllBelowBase 10 ds → 0 < get_or ds 0 0 → leads_with_zero (map digit_char ds) ≡ false
no_zero_leads [] below some = refl
no_zero_leads (d ∷ []) below some = refl
no_zero_leads (d ∷ e ∷ ds) below some = no_zero d below.0 some

weaker : (p q : ℕ → Bool) → ((c : ℕ) → p c ≡ true → q c ≡ true) → (cs : List ℕ) → list_all p cs ≡ true → list_all q cs ≡ true
weaker p q f [] h = refl
weaker p q f (c ∷ cs) h = let both = and_parts (p c) (list_all p cs) h in and_from (q c) (list_all q cs) (f c both.0) (weaker p q f cs both.1)

figure_range : (c : ℕ) → is_figure c ≡ true → (48 ≤ c) × (c ≤ 57)
figure_range c h =
    let range = and_parts (leb 48 c) (leb c 57) (and_parts (is_digit c 10) (leb 48 c && leb c 57) h).1 in
    (leb-true 48 c range.0, leb-true c 57 range.1)

figure_digit : (c : ℕ) → is_figure c ≡ true → is_digit c 10 ≡ true
figure_digit c h = (and_parts (is_digit c 10) (leb 48 c && leb c 57) h).0

figure_inner : (c : ℕ) → is_figure c ≡ true → is_inner c ≡ true
figure_inner c h =
    let range = figure_range c h in
    and_from (ltb 13 c) (ltb c 128) (lt-ltb 13 c (omega (arith, range.0))) (lt-ltb c 128 (omega (arith, range.1)))

figure_solid : (c : ℕ) → is_figure c ≡ true → not (is_blank c) ≡ true
unfolding is_blank
figure_solid c h =
    let range = figure_range c h in
    let space : eqb c 32 ≡ false = ne_eqb c 32 (λ e. omega (arith, e, range.0)) in
    let tab : eqb c 9 ≡ false = ne_eqb c 9 (λ e. omega (arith, e, range.0)) in
    rw (space, tab) refl

-- ---- numbers

not_zero : (n : ℕ) → (suc n == 0) ≡ false
not_zero n = grind arith

decimal-suc : (n : ℕ) → decimal (suc n) ≡ map digit_char (digits_of 10 (suc n))
decimal-suc n = cond-false (suc n == 0) (codes "0") (map digit_char (digits_of 10 (suc n))) (not_zero n)

below : (n : ℕ) → AllBelowBase 10 (digits_of 10 n)
below n = all_below_base_digits_of 10 n (omega arith)

decimal_figures : (n : ℕ) → list_all is_figure (decimal n) ≡ true
decimal_figures zero = refl
decimal_figures (suc n) = ap (list_all is_figure) (decimal-suc n) ∙ figures (digits_of 10 (suc n)) (below (suc n))

decimal_some : (n : ℕ) → decimal n ≢ []
decimal_some zero e = absurd cc
decimal_some (suc n) e =
    let none : length (map digit_char (digits_of 10 (suc n))) ≡ 0 = ap length (sym (decimal-suc n) ∙ e) in
    omega (arith, none, length-map (digits_of 10 (suc n)) digit_char, length-digits_of_step 10 (suc n) (omega arith) (omega arith))

decimal_leads : (n : ℕ) → leads_with_zero (decimal n) ≡ false
decimal_leads zero = refl
decimal_leads (suc n) = ap leads_with_zero (decimal-suc n) ∙ no_zero_leads (digits_of 10 (suc n)) (below (suc n)) (first_digits_of 10 (suc n) (omega arith) (omega arith))

same_value : (value : ℕ) (cs : List ℕ) → fold (λ value c. value * 10 + digit_value c) value cs ≡ digits_value_after 10 value cs
same_value value [] = refl
same_value value (c ∷ cs) = same_value (value * 10 + digit_value c) cs

decimal_value : (n : ℕ) → value_of 10 (decimal n) ≡ n
decimal_value zero = refl
decimal_value (suc n) =
    ap (value_of 10) (decimal-suc n)
    ∙ same_value 0 (map digit_char (digits_of 10 (suc n)))
    ∙ digits_value_is 10 (map digit_char (digits_of 10 (suc n)))
    ∙ ap (number_from_digits 10) (all_read_back (digits_of 10 (suc n)) (below (suc n)))
    ∙ number_digits_of 10 (suc n) (omega arith)

-- ---- words

pub decimal_inner : (n : ℕ) → list_all is_inner (decimal n) ≡ true
decimal_inner n = weaker is_figure is_inner figure_inner (decimal n) (decimal_figures n)

plain : (text : List ℕ) → text ≢ [] → list_all is_figure text ≡ true → IsPlain text
plain [] some h = some refl
plain (c ∷ cs) some h =
    let range = figure_range c (and_parts (is_figure c) (list_all is_figure cs) h).0 in
    (λ e. omega (arith, e, range.0), weaker is_figure (λ d. not (is_blank d)) figure_solid (c ∷ cs) h)

pub decimal_plain : (n : ℕ) → IsPlain (decimal n)
decimal_plain n = plain (decimal n) (decimal_some n) (decimal_figures n)

pub decimal_is : (n : ℕ) → n < 2 ^ 64 → IsDecimal (decimal n) n
decimal_is n small = record {
  digits = (decimal_some n, weaker is_figure (λ c. is_digit c 10) figure_digit (decimal n) (decimal_figures n));
  no_leading_zero = decimal_leads n;
  number_is = decimal_value n;
  small = small;
}
