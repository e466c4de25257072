-- Numbers in decimal: their bytes are digits, and no two numbers are written alike.
use Rattle.std.proofs.Common.{◌≡◌, ℕ, zero, suc, ◌+◌, ◌<◌, ◌≤◌, Bool, true, false, ◌&&◌, ◌||◌, ◌==◌, nat_le, nat_lt, ℤ, pos, negsuc, List, [], ◌∷◌, length, map, refl, sym, ap, ap₂, ◌∙◌, subst, arith, eqb-true, ltb-true, inl, inr}
use Rattle.std.specs.List.{list_all}
use Rattle.std.specs.Prelude.{codes}
use Rattle.std.specs.Char.{digit_char, digit_value}
use Rattle.std.specs.Int.Digits.{digits_of, number_from_digits, AllBelowBase}
use Rattle.std.specs.Str.Parse.{digits_value}
use Rattle.std.proofs.lemmas.Bool.{and_from, and_parts, or_cases, leb-true, cond-false, true≢false, agree_below_at}
use Rattle.std.proofs.lemmas.List.{length-map}
use Rattle.std.proofs.lemmas.Int.Digits.{digits_value_is, all_below_base_digits_of, number_digits_of, length-digits_of_step}
use Rattle.gt_digits.specs.Digits.{decimal}
use Rattle.gt_canon.specs.Lines.{integer}
use Rattle.gt_canon.proofs.Runs.{is_plain, same_head, same_tail}

abbrev pub is_digit : ℕ → Bool
is_digit c = nat_le 48 c && nat_le c 57

-- ---- what holds of each digit is a test of ten numbers

digit_written : (d : ℕ) → d < 10 → is_digit (digit_char d) ≡ true
digit_written d small = agree_below_at (λ n. is_digit (digit_char n)) (λ n. true) 10 d refl small

digit_read : (d : ℕ) → d < 10 → (digit_value (digit_char d) == d) ≡ true
digit_read d small = agree_below_at (λ n. digit_value (digit_char n) == n) (λ n. true) 10 d refl small

digits_written : (ds : List ℕ) → AllBelowBase 10 ds → list_all is_digit (map digit_char ds) ≡ true
digits_written [] below = refl
digits_written (d ∷ ds) below = and_from _ _ (digit_written d below.0) (digits_written ds below.1)

digits_read : (ds : List ℕ) → AllBelowBase 10 ds → map digit_value (map digit_char ds) ≡ ds
digits_read [] below = refl
digits_read (d ∷ ds) below = ap₂ (λ (x : ℕ) (xs : List ℕ). x ∷ xs) (eqb-true _ _ (digit_read d below.0)) (digits_read ds below.1)

-- ---- decimal

not_zero : (n : ℕ) → (suc n == 0) ≡ false
not_zero n = grind arith

decimal-suc : (n : ℕ) → decimal (suc n) ≡ map digit_char (digits_of 10 (suc n))
decimal-suc n = cond-false (suc n == 0) (codes "0") (map digit_char (digits_of 10 (suc n))) (not_zero n)

pub decimal_digits : (n : ℕ) → list_all is_digit (decimal n) ≡ true
decimal_digits zero = refl
decimal_digits (suc n) =
    ap (list_all is_digit) (decimal-suc n) ∙ digits_written (digits_of 10 (suc n)) (all_below_base_digits_of 10 (suc n) (omega arith))

decimal_value : (n : ℕ) → digits_value 10 (decimal n) ≡ n
decimal_value zero = refl
decimal_value (suc n) =
    ap (digits_value 10) (decimal-suc n)
    ∙ digits_value_is 10 (map digit_char (digits_of 10 (suc n)))
    ∙ ap (number_from_digits 10) (digits_read (digits_of 10 (suc n)) (all_below_base_digits_of 10 (suc n) (omega arith)))
    ∙ number_digits_of 10 (suc n) (omega arith)

pub same_decimal : (m n : ℕ) → decimal m ≡ decimal n → m ≡ n
same_decimal m n e = sym (decimal_value m) ∙ ap (digits_value 10) e ∙ decimal_value n

-- a text that begins with a digit
pub record BeginsWithDigit (text : List ℕ) : Type 0 where
  pub first : ℕ
  pub others : List ℕ
  pub is : text ≡ first ∷ others
  pub digit : is_digit first ≡ true

begins : (ds : List ℕ) → list_all is_digit ds ≡ true → 0 < length ds → BeginsWithDigit ds
begins [] all some = absurd (omega (arith, some))
begins (d ∷ ds) all some = record { first = d; others = ds; is = refl; digit = (and_parts _ _ all).0 }

length-decimal : (n : ℕ) → 0 < length (decimal n)
length-decimal zero = omega arith
length-decimal (suc n) =
    let step = length-digits_of_step 10 (suc n) (omega arith) (omega arith) in
    subst (λ (l : List ℕ). 0 < length l) (sym (decimal-suc n)) (omega (arith, step, length-map (digits_of 10 (suc n)) digit_char))

pub decimal_begins : (n : ℕ) → BeginsWithDigit (decimal n)
decimal_begins n = begins (decimal n) (decimal_digits n) (length-decimal n)

-- ---- bytes of words

-- no number from 48 on and below 58 stops a word
plain_from_table : (c : ℕ) → c < 58 → (nat_lt c 48 || is_plain c) ≡ true
plain_from_table c small = agree_below_at (λ n. nat_lt n 48 || is_plain n) (λ n. true) 58 c refl small

plain_between : (c : ℕ) → 48 ≤ c → c ≤ 57 → is_plain c ≡ true
plain_between c low high = elim (or_cases _ _ (plain_from_table c (omega (arith, high)))) [
  | inl small ↦ absurd (omega (arith, ltb-true c 48 small, low))
  | inr plain ↦ plain
]

digit_plain : (c : ℕ) → is_digit c ≡ true → is_plain c ≡ true
digit_plain c digit =
    let p = and_parts _ _ digit in
    let low : 48 ≤ c = leb-true _ _ p.0 in
    let high : c ≤ 57 = leb-true _ _ p.1 in
    plain_between c low high

digits_plain : (ds : List ℕ) → list_all is_digit ds ≡ true → list_all is_plain ds ≡ true
digits_plain [] all = refl
digits_plain (d ∷ ds) all = let p = and_parts _ _ all in and_from _ _ (digit_plain d p.0) (digits_plain ds p.1)

pub decimal_plain : (n : ℕ) → list_all is_plain (decimal n) ≡ true
decimal_plain n = digits_plain (decimal n) (decimal_digits n)

-- ---- integers

pub integer_plain : (n : ℤ) → list_all is_plain (integer n) ≡ true
integer_plain (pos n) = decimal_plain n
integer_plain (negsuc n) = decimal_plain (n + 1)

-- a digit is no sign
sign_no_digit : (n : ℕ) (r : List ℕ) → decimal n ≡ 45 ∷ r → ⊥
sign_no_digit n r e =
    let begun = decimal_begins n in
    let first : begun.first ≡ 45 = same_head begun.first 45 begun.others r (sym begun.is ∙ e) in
    true≢false (sym (subst (λ c. is_digit c ≡ true) first begun.digit))

pub same_integer : (m n : ℤ) → integer m ≡ integer n → m ≡ n
same_integer (pos m) (pos n) e = ap pos (same_decimal m n e)
same_integer (pos m) (negsuc n) e = absurd (sign_no_digit m (decimal (n + 1)) e)
same_integer (negsuc m) (pos n) e = absurd (sign_no_digit n (decimal (m + 1)) (sym e))
same_integer (negsuc m) (negsuc n) e =
    let same : m + 1 ≡ n + 1 = same_decimal (m + 1) (n + 1) (same_tail 45 45 (decimal (m + 1)) (decimal (n + 1)) e) in
    ap negsuc (omega (arith, same))
