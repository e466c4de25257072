-- The digits that the library writes are those of a number in decimal.
use Rattle.std.proofs.Common.{◌≡◌, ℕ, zero, suc, ◌+◌, ◌/◌, ◌%◌, ◌^◌, ◌<◌, ◌≤◌, false, ℤ, pos, negsuc, List, [], ◌∷◌, ◌++◌, map, refl, sym, ap, ap₂, ◌∙◌, arith}
use Rattle.std.proofs.lemmas.Bool.{cond-false}
use Rattle.std.proofs.lemmas.List.{map_push}
use Rattle.std.proofs.lemmas.Int.Digits.{digits_of_step}
use Rattle.std.proofs.lemmas.Fmt.{decimal_by_steps_wide}
use Rattle.std.specs.Char.{digit_char}
use Rattle.std.specs.Int.Digits.{digits_of}
use Rattle.std.specs.Fmt as written
use Rattle.std.specs.Prelude.{◌==◌, codes}
use lib.Signed.{mag}
use Rattle.gt_digits.specs.Digits.{decimal}
use Rattle.gt_show.specs.Shown.{number_text}

digit-small : (n : ℕ) → n < 10 → digit_char n ≡ 48 + n
digit-small n small = grind arith

not_zero : (n : ℕ) → (suc n == 0) ≡ false
not_zero n = grind arith

-- the digits of a number that is not 0
some_digits : (n : ℕ) → 0 < n → decimal n ≡ map digit_char (digits_of 10 n)
some_digits zero some = absurd (omega (arith, some))
some_digits (suc n) some = cond-false (suc n == 0) (codes "0") (map digit_char (digits_of 10 (suc n))) (not_zero n)

one_digit : (n : ℕ) → n < 10 → decimal n ≡ (48 + n) ∷ []
one_digit zero small = refl
one_digit (suc n) small =
    let none : suc n / 10 ≡ 0 = omega arith in
    let own : suc n % 10 ≡ suc n = omega arith in
    some_digits (suc n) (omega arith) ∙ ap (map digit_char) (digits_of_step 10 (suc n) (omega arith) (omega arith)) ∙ ap₂ (λ (k d : ℕ). map digit_char (digits_of 10 k ++ (d ∷ []))) none own
    ∙ ap (λ (d : ℕ). d ∷ []) (digit-small (suc n) small)

last_digit : (n : ℕ) → 10 ≤ n → decimal n ≡ decimal (n / 10) ++ ((48 + n % 10) ∷ [])
last_digit n large =
    let some : 0 < n / 10 = omega arith in
    let small : n % 10 < 10 = omega arith in
    some_digits n (omega arith) ∙ ap (map digit_char) (digits_of_step 10 n (omega arith) (omega arith)) ∙ map_push digit_char (digits_of 10 (n / 10)) (n % 10)
    ∙ ap₂ (λ (ds : List ℕ) (d : ℕ). ds ++ (d ∷ [])) (sym (some_digits (n / 10) some)) (digit-small (n % 10) small)

abbrev IsDecimal : ℕ → List ℕ → Type 0
IsDecimal n ds = ds ≡ decimal n

pub written-decimal : (n : ℕ) → n < 10 ^ 64 → written.decimal n ≡ decimal n
written-decimal =
    decimal_by_steps_wide IsDecimal (λ n small. sym (one_digit n small))
    (λ n ds large before. ap (λ (xs : List ℕ). xs ++ ((48 + n % 10) ∷ [])) before ∙ sym (last_digit n large))

pub written-number : (z : ℤ) → mag z < 2 ^ 127 → written.signed_decimal z ≡ number_text z
written-number (pos n) small = written-decimal n (omega (arith, small))
written-number (negsuc n) small = ap (λ (ds : List ℕ). 45 ∷ ds) (written-decimal (suc n) (omega (arith, small)))
