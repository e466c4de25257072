-- The digits that the library writes are those of a number in a base.
use Rattle.std.proofs.Common.{◌≡◌, ℕ, zero, suc, ◌-◌, ◌/◌, ◌%◌, ◌^◌, ◌<◌, ◌≤◌, Bool, false, cond, List, [], ◌∷◌, ◌++◌, length, map, replicate, refl, sym, ap, ap₂, ◌∙◌, arith, append-nil}
use Rattle.std.proofs.Math.Nat.{pow-zero, pow-suc, div-lt_iff_lt-mul}
use Rattle.std.proofs.lemmas.Bool.{eq-eqb, ne_eqb}
use Rattle.std.proofs.lemmas.List.{append_assoc, map_push}
use Rattle.std.proofs.lemmas.Int.Digits.{digits_of_step}
use Rattle.std.specs.Char.{digit_char}
use Rattle.std.specs.Int.Digits.{digits_of}
use Rattle.std.specs.Fmt.{digits, digits_onto, padded_integral, char_count, format_spec}
use Rattle.std.specs.Prelude.{◌==◌, codes}
use Rattle.std.proofs.lemmas.Bool.{cond-false}
use Rattle.gt_digits.specs.Digits.{decimal, hexadecimal}

-- the last digit is pushed on after the others
last : (b n : ℕ) (acc : List ℕ) → 2 ≤ b → 0 < n → map digit_char (digits_of b n) ++ acc ≡ map digit_char (digits_of b (n / b)) ++ (digit_char (n % b) ∷ acc)
last b n acc two some =
    ap (λ ds. map digit_char ds ++ acc) (digits_of_step b n two some) ∙ ap (λ ds. ds ++ acc) (map_push digit_char (digits_of b (n / b)) (n % b))
    ∙ append_assoc (map digit_char (digits_of b (n / b))) (digit_char (n % b) ∷ []) acc

-- the digits are pushed in front of others, as long as there are turns
onto_by : (b k n : ℕ) (acc : List ℕ) → 2 ≤ b → 0 < n
    → (0 < n / b → digits_onto k b false (n / b) (digit_char (n % b) ∷ acc) ≡ map digit_char (digits_of b (n / b)) ++ (digit_char (n % b) ∷ acc))
    → (m : ℕ) → n / b ≡ m → digits_onto (suc k) b false n acc ≡ map digit_char (digits_of b n) ++ acc
onto_by b k n acc two some others zero e =
    let more : List ℕ = digit_char (n % b) ∷ acc in
    ap (λ (t : Bool). cond t more (digits_onto k b false (n / b) more)) (eq-eqb (n / b) 0 e)
    ∙ sym (last b n acc two some ∙ ap (λ (m : ℕ). map digit_char (digits_of b m) ++ more) e)
onto_by b k n acc two some others (suc m) e =
    let more : List ℕ = digit_char (n % b) ∷ acc in
    ap (λ (t : Bool). cond t more (digits_onto k b false (n / b) more)) (ne_eqb (n / b) 0 (λ z. omega arith))
    ∙ others (omega arith) ∙ sym (last b n acc two some)

onto : (b k n : ℕ) (acc : List ℕ) → 2 ≤ b → 0 < n → n < b ^ k → digits_onto k b false n acc ≡ map digit_char (digits_of b n) ++ acc
onto b zero n acc two some small = absurd (omega (arith, pow-zero b))
onto b (suc k) n acc two some small =
    let positive : 0 < b = omega arith in
    let below : n / b < b ^ k = (div-lt_iff_lt-mul positive).1 (omega (arith, pow-suc b k)) in
    onto_by b k n acc two some (λ more. onto b k (n / b) (digit_char (n % b) ∷ acc) two more below) (n / b) refl

-- what is written of a number that is not 0
pub digits-digits_of : (b n : ℕ) → 2 ≤ b → 0 < n → n < b ^ 64 → digits b false n ≡ map digit_char (digits_of b n)
unfolding digits
digits-digits_of b n two some small = onto b 64 n [] two some small ∙ append-nil (map digit_char (digits_of b n))

not_zero : (n : ℕ) → (suc n == 0) ≡ false
not_zero n = grind arith

-- what is written of a number in decimal
pub digits-decimal : (n : ℕ) → n < 2 ^ 64 → digits 10 false n ≡ decimal n
unfolding digits
digits-decimal zero small = refl
digits-decimal (suc n) small =
    digits-digits_of 10 (suc n) (omega arith) (omega arith) (omega arith) ∙ sym (cond-false (suc n == 0) (codes "0") (map digit_char (digits_of 10 (suc n))) (not_zero n))

-- zeros stand in front of fewer than eight digits
padded_eight : (ds : List ℕ) → padded_integral (format_spec 32 0 4 8 (2 ^ 64 - 1)) false [] ds ≡ replicate (8 - length ds) 48 ++ ds
unfolding padded_integral char_count
padded_eight ds = let room : 8 - length ds - 0 - 0 ≡ 8 - length ds = omega arith in ap₂ (λ n xs. replicate n 48 ++ xs) room (append-nil ds)

-- what is written of a number in eight hexadecimal digits or more
pub padded-hexadecimal : (n : ℕ) → n < 2 ^ 64 → padded_integral (format_spec 32 0 4 8 (2 ^ 64 - 1)) false [] (digits 16 false n) ≡ hexadecimal n
unfolding padded_integral char_count digits
padded-hexadecimal zero small = refl
padded-hexadecimal (suc n) small = padded_eight (digits 16 false (suc n)) ∙ ap (λ ds. replicate (8 - length ds) 48 ++ ds) (digits-digits_of 16 (suc n) (omega arith) (omega arith) (omega arith))
