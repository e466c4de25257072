-- Numbers and values are read as they are spelled.
use Rattle.std.proofs.Common.{◌≡◌, ◌≢◌, ℕ, ◌≤◌, ◌<◌, ◌^◌, Bool, true, false, not, cond, eqb, leb, ltb, List, [], ◌∷◌, ◌++◌, length, Option, Some, None, ℤ, pos, refl, sym, ap, subst, ◌∙◌, arith, inl, inr}
use Rattle.std.specs.Prelude.{◌&&◌, codes, neg_ℤ}
use Rattle.std.specs.Option.{option_map, option_map_or}
use Rattle.std.specs.List.{list_all}
use Rattle.std.specs.Char.{is_digit}
use Rattle.std.specs.Str.{bytes_eq}
use Rattle.std.proofs.lemmas.Bool.{and_parts, both_ways, false_from_ne_true, eqb-true, not-true, ltb-true, lt-ltb}
use Rattle.std.proofs.lemmas.Bool.Decides.{nat_tests}
use Rattle.std.proofs.lemmas.Option.{cond_some, same_Some}
use Rattle.std.proofs.lemmas.List.{nil_from_length}
use Rattle.std.proofs.lemmas.Slice.Eq.{bytes_eq-Decides}
use Rattle.gt_text.specs.Integer.{value_of}
use Rattle.gt_script.specs.declared.command.Given.{Given}
use Rattle.gt_script.specs.declared.command.Given.TheVariants.{Integer, Null, Var}
use Rattle.gt_split.specs.Texts.{following, leads_with_zero}
use Rattle.gt_script.specs.Values.{name_at, given_at}
use Rattle.gt_split.specs.Numbers.{digits_at, decimal_at, natural_at, negative_at, integer_at}
use Rattle.gt_script.specs.Language.{AreDigits, IsDecimal, IsNatural, is_decimal, is_hexadecimal, IsInteger, is_positive, is_negative, variable_text, IsValue, is_null, is_variable, is_integer}
use Rattle.gt_split.proofs.Options.{bind_some, map_or_some, passed, chosen}
use Rattle.gt_script.proofs.NamesSpelled.{after_taken, name_taken, name_again}

-- ---- digits

record DigitsTaken (base : ℕ) (text : List ℕ) (number : ℕ) : Type 0 where
  digits : AreDigits base text
  number_is : value_of base text ≡ number
  small : number < 2 ^ 64

digits_taken : (base : ℕ) (text : List ℕ) (number : ℕ) → digits_at base text ≡ Some number → DigitsTaken base text number
unfolding digits_at
digits_taken base text number e =
    let g = cond_some (not (eqb (length text) 0) && list_all (λ c. is_digit c base) text && ltb (value_of base text) (2 ^ 64)) (value_of base text) number e in
    let both = and_parts (not (eqb (length text) 0) && list_all (λ c. is_digit c base) text) (ltb (value_of base text) (2 ^ 64)) g.0 in
    let front = and_parts (not (eqb (length text) 0)) (list_all (λ c. is_digit c base) text) both.0 in
    let less : value_of base text < 2 ^ 64 = ltb-true (value_of base text) (2 ^ 64) both.1 in
    record {
      digits = (λ none. both_ways (eqb (length text) 0) (not-true (eqb (length text) 0) front.0) (ap (λ (t : List ℕ). eqb (length t) 0) none), front.1);
      number_is = g.1;
      small = subst (λ n. n < 2 ^ 64) g.1 less;
    }

digits_again : (base : ℕ) (text : List ℕ) (number : ℕ) → AreDigits base text → value_of base text ≡ number → number < 2 ^ 64 → digits_at base text ≡ Some number
unfolding digits_at
digits_again base text number h is small =
    let long : eqb (length text) 0 ≡ false = false_from_ne_true (eqb (length text) 0) (λ e. h.0 (nil_from_length text (eqb-true (length text) 0 e))) in
    let less : ltb (value_of base text) (2 ^ 64) ≡ true = ap (λ n. ltb n (2 ^ 64)) is ∙ lt-ltb number (2 ^ 64) small in
    rw (long, h.1, less) (ap Some is)

pub decimal_taken : (text : List ℕ) (number : ℕ) → decimal_at text ≡ Some number → IsDecimal text number
unfolding decimal_at
decimal_taken text number e =
    let g = passed (leads_with_zero text) (digits_at 10 text) number e in
    let taken = digits_taken 10 text number g.1 in
    record { digits = taken.digits; no_leading_zero = g.0; number_is = taken.number_is; small = taken.small }

pub decimal_again : (text : List ℕ) (number : ℕ) → IsDecimal text number → decimal_at text ≡ Some number
unfolding decimal_at
decimal_again text number h = rw h.no_leading_zero (digits_again 10 text number h.digits h.number_is h.small)

-- ---- naturals

-- no decimal digit is a mark
no_digit : (m : ℕ) → is_digit m 10 ≡ false → (c : ℕ) → is_digit c 10 ≡ true → eqb c m ≡ false
no_digit m never c h = false_from_ne_true (eqb c m) (λ e. both_ways (is_digit c 10) (ap (λ d. is_digit d 10) (eqb-true c m e) ∙ never) h)

never : (b : Bool) (o : Option (List ℕ)) → b ≡ false → cond b o None ≡ None
never b o e = rw e refl

and_false : (b : Bool) → (b && false) ≡ false
and_false true = refl
and_false false = refl

no_prefix : (text : List ℕ) → list_all (λ c. is_digit c 10) text ≡ true → following (codes "0x") text ≡ None
unfolding following
no_prefix [] h = refl
no_prefix (c ∷ []) h = never (eqb c 48 && false) (Some []) (and_false (eqb c 48))
no_prefix (c ∷ d ∷ cs) h =
    let first = and_parts (is_digit c 10) (is_digit d 10 && list_all (λ c. is_digit c 10) cs) h in
    let second = and_parts (is_digit d 10) (list_all (λ c. is_digit c 10) cs) first.1 in
    let other : eqb d 120 ≡ false = no_digit 120 refl d second.0 in
    rw other (never (eqb c 48 && false) (Some cs) (and_false (eqb c 48)))

no_minus : (text : List ℕ) → text ≢ [] → list_all (λ c. is_digit c 10) text ≡ true → following (codes "-") text ≡ None
unfolding following
no_minus [] some h = absurd (some refl)
no_minus (c ∷ cs) some h =
    let first = and_parts (is_digit c 10) (list_all (λ c. is_digit c 10) cs) h in
    let other : eqb c 45 ≡ false = no_digit 45 refl c first.0 in
    rw other refl

natural_taken : (text : List ℕ) (number : ℕ) → natural_at text ≡ Some number → IsNatural text number
unfolding natural_at
natural_taken text number e =
    elim (map_or_some (following (codes "0x") text) (digits_at 16) (decimal_at text) number e) [
      | inl g ↦
          let taken = digits_taken 16 g.0 number g.2 in
          subst (λ (t : List ℕ). IsNatural t number) (sym (after_taken (codes "0x") text g.0 g.1)) (is_hexadecimal g.0 number taken.digits taken.number_is taken.small)
      | inr g ↦ is_decimal text number (decimal_taken text number g.1)
    ]

hexadecimal_again : (digits : List ℕ) (number : ℕ) → digits_at 16 digits ≡ Some number → natural_at (codes "0x" ++ digits) ≡ Some number
unfolding natural_at following
hexadecimal_again digits number e = e

natural_again : {text : List ℕ} {number : ℕ} → IsNatural text number → natural_at text ≡ Some number
unfolding natural_at
natural_again (is_decimal text number h) = rw (no_prefix text h.digits.1) (decimal_again text number h)
natural_again (is_hexadecimal digits number h is small) = hexadecimal_again digits number (digits_again 16 digits number h is small)

natural_no_minus : {text : List ℕ} {number : ℕ} → IsNatural text number → following (codes "-") text ≡ None
unfolding following
natural_no_minus (is_decimal text number h) = no_minus text h.digits.0 h.digits.1
natural_no_minus (is_hexadecimal digits number h is small) = refl

-- ---- integers

pub mapped_some : {A B : Type 0} (f : A → B) (o : Option A) (y : B) → option_map f o ≡ Some y → (x : A) × (o ≡ Some x) × (f x ≡ y)
mapped_some f (Some x) y e = (x, refl, same_Some (f x) y e)
mapped_some f None y e = absurd cc

pub integer_taken : (text : List ℕ) (number : ℤ) → integer_at text ≡ Some number → IsInteger text number
unfolding integer_at negative_at
integer_taken text number e =
    elim (map_or_some (following (codes "-") text) negative_at (option_map pos (natural_at text)) number e) [
      | inl g ↦
          let n = bind_some (natural_at g.0) (λ n. cond (leb n (2 ^ 63)) (Some (neg_ℤ (pos n))) None) number g.2 in
          let k = cond_some (leb n.0 (2 ^ 63)) (neg_ℤ (pos n.0)) number n.2 in
          let less : n.0 ≤ 2 ^ 63 = grind (arith, nat_tests, k.0) in
          let here : IsInteger (codes "-" ++ g.0) number = subst (λ (z : ℤ). IsInteger (codes "-" ++ g.0) z) k.1 (is_negative g.0 n.0 (natural_taken g.0 n.0 n.1) less) in
          subst (λ (t : List ℕ). IsInteger t number) (sym (after_taken (codes "-") text g.0 g.1)) here
      | inr g ↦
          let n = mapped_some pos (natural_at text) number g.1 in
          subst (λ (z : ℤ). IsInteger text z) n.2 (is_positive text n.0 (natural_taken text n.0 n.1))
    ]

positive_again : (text : List ℕ) (number : ℕ) → following (codes "-") text ≡ None → natural_at text ≡ Some number → integer_at text ≡ Some (pos number)
unfolding integer_at
positive_again text number e f = rw (e, f) refl

pub integer_again : {text : List ℕ} {number : ℤ} → IsInteger text number → integer_at text ≡ Some number
unfolding integer_at negative_at following
integer_again (is_positive text number h) = positive_again text number (natural_no_minus h) (natural_again h)
integer_again (is_negative text number h small) =
    let less : leb number (2 ^ 63) ≡ true = grind (arith, nat_tests, small) in
    rw (natural_again h, less) refl

-- ---- values

-- the first byte of an integer
integer_no_dollar : {text : List ℕ} {number : ℤ} → IsInteger text number → following (codes "$") text ≡ None
unfolding following
integer_no_dollar (is_positive _ number (is_decimal [] _ h)) = absurd (h.digits.0 refl)
integer_no_dollar (is_positive _ number (is_decimal (c ∷ cs) _ h)) =
    let first = and_parts (is_digit c 10) (list_all (λ c. is_digit c 10) cs) h.digits.1 in
    let other : eqb c 36 ≡ false = no_digit 36 refl c first.0 in
    rw other refl
integer_no_dollar (is_positive _ number (is_hexadecimal digits _ h is small)) = refl
integer_no_dollar (is_negative text number h small) = refl

integer_not_null : {text : List ℕ} {number : ℤ} → IsInteger text number → bytes_eq text (codes "null") ≡ false
integer_not_null (is_positive _ number (is_decimal [] _ h)) = refl
integer_not_null (is_positive _ number (is_decimal (c ∷ cs) _ h)) =
    let first = and_parts (is_digit c 10) (list_all (λ c. is_digit c 10) cs) h.digits.1 in
    let other : eqb c 110 ≡ false = no_digit 110 refl c first.0 in
    rw other refl
integer_not_null (is_positive _ number (is_hexadecimal digits _ h is small)) = refl
integer_not_null (is_negative text number h small) = refl

pub value_taken : (text : List ℕ) (value : Given) → given_at text ≡ Some value → IsValue text value
unfolding given_at
value_taken text value e =
    elim (chosen (bytes_eq text (codes "null")) (Some Null) (option_map_or (λ name. option_map Var (name_at name)) (following (codes "$") text) (option_map Integer (integer_at text))) value e) [
      | inl g ↦
          let here : IsValue text Null = subst (λ (t : List ℕ). IsValue t Null) (sym ((bytes_eq-Decides text (codes "null")).0 g.0)) is_null in
          subst (IsValue text) (same_Some Null value g.1) here
      | inr g ↦
          elim (map_or_some (following (codes "$") text) (λ name. option_map Var (name_at name)) (option_map Integer (integer_at text)) value g.1) [
            | inl h ↦
                let n = mapped_some Var (name_at h.0) value h.2 in
                let taken = name_taken h.0 n.0 n.1 in
                let whole : text ≡ variable_text n.0 = after_taken (codes "$") text h.0 h.1 ∙ ap (λ (l : List ℕ). codes "$" ++ l) taken.1 in
                let here : IsValue text (Var n.0) = subst (λ (t : List ℕ). IsValue t (Var n.0)) (sym whole) (is_variable n.0 taken.0) in
                subst (IsValue text) n.2 here
            | inr h ↦
                let n = mapped_some Integer (integer_at text) value h.1 in
                subst (IsValue text) n.2 (is_integer text n.0 (integer_taken text n.0 n.1))
          ]
    ]

integer_value_again : (text : List ℕ) (number : ℤ) → bytes_eq text (codes "null") ≡ false → following (codes "$") text ≡ None → integer_at text ≡ Some number → given_at text ≡ Some (Integer number)
unfolding given_at
integer_value_again text number e f g = rw (e, f, g) refl

pub value_again : {text : List ℕ} {value : Given} → IsValue text value → given_at text ≡ Some value
unfolding given_at following
value_again is_null = refl
value_again (is_variable name h) = rw (name_again name h) refl
value_again (is_integer text number h) = integer_value_again text number (integer_not_null h) (integer_no_dollar h) (integer_again h)
