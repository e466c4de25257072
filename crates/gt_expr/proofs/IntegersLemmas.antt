-- The longest integer literal at the front of a text.
use Rattle.std.proofs.Common.{◌≡◌, ℕ, zero, suc, ◌+◌, ◌*◌, ◌-◌, ◌^◌, ◌<◌, ◌≤◌, min, Bool, true, false, cond, not, ◌&&◌, ◌||◌, List, [], ◌∷◌, ◌++◌, length, get_or, take, drop, Some, None, refl, sym, ap, ap₂, ◌∙◌, arith, inl, inr}
use Rattle.std.specs.Prelude.{is_some, codes, fold, ◌==◌, nat_eq, nat_lt, nat_le}
use Rattle.std.specs.Char.{digit_value, is_digit}
use Rattle.std.specs.List.{prefix_len, list_any, list_all, starts_with}
use Rattle.std.proofs.Math.Nat.{mul-le-mul_left}
use Rattle.std.proofs.Math.Seq.{take-add}
use Rattle.std.proofs.lemmas.Bool.{cases_Bool, cases_lt, or_cases, eqb-true, ltb-true, lt-ltb, le-ltb, ne_eqb, eq-eqb, and_right, and_parts, or_from, leb-true}
use Rattle.std.proofs.lemmas.List.{length-take, length-drop, take-take, drop-take, take_rest}
use Rattle.std.proofs.lemmas.List.Sums.{fold-append, prefix_len-le-length, prefix_len-drop_no, prefix_len_passes}
use Rattle.gt_text.specs.Integer.{digits_of, suffix_of, is_suffix_of, value_of, numeral_of, integer_of}
use Rattle.gt_expr.specs.Parts.{longest_up_to, integer_len}

-- ---- the longest front

-- a front that passes, and none that is longer does
pub longest_up_to-is : (p : List ℕ → Bool) (text : List ℕ) (n len : ℕ) → n ≤ len → p (take n text) ≡ true → ((m : ℕ) → n < m → m ≤ len → p (take m text) ≡ false) → longest_up_to p text len ≡ n
longest_up_to-is p text n zero h e longer = omega arith
longest_up_to-is p text n (suc len) h e longer = elim (cases_lt n (suc len)) [
  | inl lt ↦ rw (longer (suc len) lt (omega arith)) (longest_up_to-is p text n len (omega arith) e (λ m a b. longer m a (omega arith)))
  | inr le ↦ let same : n ≡ suc len = omega arith in let here : p (take (suc len) text) ≡ true = rw same at e in rw here (sym same)
]

pub longest_up_to-none : (p : List ℕ → Bool) (text : List ℕ) (len : ℕ) → ((m : ℕ) → 0 < m → m ≤ len → p (take m text) ≡ false) → longest_up_to p text len ≡ 0
longest_up_to-none p text zero longer = refl
longest_up_to-none p text (suc len) longer = rw (longer (suc len) (omega arith) (omega arith)) (longest_up_to-none p text len (λ m a b. longer m a (omega arith)))

-- two tests that agree on the fronts
pub longest_up_to-same : (p q : List ℕ → Bool) (text : List ℕ) (len : ℕ) → ((m : ℕ) → p (take m text) ≡ q (take m text)) → longest_up_to p text len ≡ longest_up_to q text len
longest_up_to-same p q text zero same = refl
longest_up_to-same p q text (suc len) same = rw (same (suc len), longest_up_to-same p q text len same) refl

-- ---- fronts that pass

prefix_len-take : (p : ℕ → Bool) (m : ℕ) (xs : List ℕ) → prefix_len p (take m xs) ≡ min m (prefix_len p xs)
prefix_len-take p zero xs = omega arith
prefix_len-take p (suc m) [] = omega arith
prefix_len-take p (suc m) (x ∷ xs) = elim (cases_Bool (p x)) [
  | inl e ↦ let more = prefix_len-take p m xs in rw e (omega (arith, more))
  | inr e ↦ rw e (omega arith)
]

both_pass : (b r : Bool) (m n : ℕ) → suc m ≤ cond b (1 + n) 0 → (m ≤ n → r ≡ true) → (b && r) ≡ true
both_pass true r m n h f = f (omega arith)
both_pass false r m n h f = absurd (omega arith)

one_fails : (b r : Bool) (m n : ℕ) → cond b (1 + n) 0 < suc m → (n < m → r ≡ false) → (b && r) ≡ false
one_fails true r m n h f = f (omega arith)
one_fails false r m n h f = refl

list_all-take-within : (p : ℕ → Bool) (m : ℕ) (xs : List ℕ) → m ≤ prefix_len p xs → list_all p (take m xs) ≡ true
list_all-take-within p zero xs h = refl
list_all-take-within p (suc m) [] h = refl
list_all-take-within p (suc m) (x ∷ xs) h = both_pass (p x) (list_all p (take m xs)) m (prefix_len p xs) h (list_all-take-within p m xs)

list_all-take-past : (p : ℕ → Bool) (m : ℕ) (xs : List ℕ) → prefix_len p xs < m → m ≤ length xs → list_all p (take m xs) ≡ false
list_all-take-past p zero xs h l = absurd (omega arith)
list_all-take-past p (suc m) [] h l = absurd (omega arith)
list_all-take-past p (suc m) (x ∷ xs) h l = one_fails (p x) (list_all p (take m xs)) m (prefix_len p xs) h (λ lt. list_all-take-past p m xs lt (omega arith))

-- ---- digits

abbrev step : ℕ → ℕ → ℕ → ℕ
step base value c = value * base + digit_value c

one_more : (base a d n : ℕ) → 1 ≤ base → a * base + d ≤ n → a ≤ n
one_more base a d n h le = omega (arith, mul-le-mul_left a h)

fold-grows : (base : ℕ) → 1 ≤ base → (a : ℕ) (cs : List ℕ) → a ≤ fold (step base) a cs
fold-grows base h a [] = omega arith
fold-grows base h a (c ∷ cs) =
    one_more base a (digit_value c) (fold (step base) (a * base + digit_value c) cs) h (fold-grows base h (a * base + digit_value c) cs)

-- more digits are worth no less
value_of-take : (base i j : ℕ) (cs : List ℕ) → 1 ≤ base → i ≤ j → value_of base (take i cs) ≤ value_of base (take j cs)
value_of-take base i j cs h le =
    let k : j ≡ i + (j - i) = omega arith in
    let split : take j cs ≡ take i cs ++ take (j - i) (drop i cs) = ap (λ n. take n cs) k ∙ take-add i (j - i) cs in
    rw (split, fold-append (step base) 0 (take i cs) (take (j - i) (drop i cs))) (fold-grows base h (fold (step base) 0 (take i cs)) (take (j - i) (drop i cs)))

-- ---- numerals

is_some-cond : (b : Bool) (n : ℕ) → is_some (cond b (Some n) None) ≡ b
is_some-cond true n = refl
is_some-cond false n = refl

-- what a numeral asks, of its digits and of what stands after them
abbrev pub asks : ℕ → List ℕ → List ℕ → Bool
asks base digits following = not (length digits == 0) && is_suffix_of following && nat_lt (value_of base digits) (2 ^ 63)

pub numeral_some : (base : ℕ) (text : List ℕ) → is_some (numeral_of base text) ≡ asks base (digits_of base text) (suffix_of base text)
numeral_some base text = is_some-cond (asks base (digits_of base text) (suffix_of base text)) (value_of base (digits_of base text))

asks_yes : (base : ℕ) (digits following : List ℕ) → 0 < length digits → is_suffix_of following ≡ true → value_of base digits < 2 ^ 63 → asks base digits following ≡ true
asks_yes base digits following some suffix small = rw (ne_eqb (length digits) 0 (λ e. omega arith), suffix, lt-ltb (value_of base digits) (2 ^ 63) small) refl

asks_none : (base : ℕ) (digits following : List ℕ) → length digits ≡ 0 → asks base digits following ≡ false
asks_none base digits following e = rw (eq-eqb (length digits) 0 e) refl

pub asks_suffix : (base : ℕ) (digits following : List ℕ) → is_suffix_of following ≡ false → asks base digits following ≡ false
asks_suffix base digits following e = rw e (and_false (not (length digits == 0)) (nat_lt (value_of base digits) (2 ^ 63)))
  where
    and_false : (a b : Bool) → (a && false && b) ≡ false
    and_false true b = refl
    and_false false b = refl

asks_large : (base : ℕ) (digits following : List ℕ) → 2 ^ 63 ≤ value_of base digits → asks base digits following ≡ false
asks_large base digits following e = rw (le-ltb (value_of base digits) (2 ^ 63) e) (and_right (not (length digits == 0) && is_suffix_of following) false refl)

-- a digit is none of some characters that are no digits
digit_is_none : (base c : ℕ) → base ≤ 16 → is_digit c base ≡ true → (others : List ℕ) → list_all (λ x. nat_le 16 (digit_value x)) others ≡ true → list_any (λ x. x == c) others ≡ false
digit_is_none base c most digit [] h = refl
digit_is_none base c most digit (x ∷ xs) h =
    let parts = and_parts (nat_le 16 (digit_value x)) (list_all (λ y. nat_le 16 (digit_value y)) xs) h in
    or_from (x == c) (list_any (λ y. y == c) xs) (ne_eqb x c (λ e. omega (arith, leb-true 16 (digit_value x) parts.0, ltb-true (digit_value c) base digit, ap digit_value e))) (digit_is_none base c most digit xs parts.1)

module _ (base : ℕ) (text : List ℕ) (least : 8 ≤ base) (most : base ≤ 16) where
  abbrev is_base : ℕ → Bool
  is_base c = is_digit c base

  abbrev is_letter : ℕ → Bool
  is_letter c = list_any (λ letter. letter == c) (codes "uUlL")

  abbrev run : ℕ
  run = prefix_len is_base text

  digits_of-take : (m : ℕ) → digits_of base (take m text) ≡ take (min m run) text
  digits_of-take m =
      let le : min m run ≤ m = omega arith in
      ap (λ n. take n (take m text)) (prefix_len-take is_base m text) ∙ take-take (min m run) m text le

  length-digits : (m : ℕ) → length (take (min m run) text) ≡ min m run
  length-digits m = let within = prefix_len-le-length is_base text in omega (arith, length-take (min m run) text)

  suffix_of-take : (m : ℕ) → suffix_of base (take m text) ≡ drop (min m run) (take m text)
  suffix_of-take m = ap (λ n. drop n (take m text)) (ap length (digits_of-take m) ∙ length-digits m)

  abbrev passes : ℕ → Bool
  passes m = is_some (numeral_of base (take m text))

  -- a front of k digits and j characters after them
  passes_is : (m k j : ℕ) → min m run ≡ k → m ≡ k + j → passes m ≡ asks base (take k text) (take j (drop k text))
  passes_is m k j e split =
      let digits : digits_of base (take m text) ≡ take k text = digits_of-take m ∙ ap (λ n. take n text) e in
      let following : suffix_of base (take m text) ≡ take j (drop k text) =
      suffix_of-take m ∙ ap₂ (λ a b. drop a (take b text)) e split ∙ drop-take k j text in
      numeral_some base (take m text) ∙ ap₂ (asks base) digits following

  letter_is_none : (c : ℕ) → is_base c ≡ true → is_letter c ≡ false
  letter_is_none c e = digit_is_none base c most e (codes "uUlL") refl

  module _ (d : ℕ) (within : d ≤ length text) (digits : d ≤ run) (small : value_of base (take d text) < 2 ^ 63) (large : d < run → 2 ^ 63 ≤ value_of base (take (d + 1) text)) where
    abbrev letters : ℕ
    letters = prefix_len is_letter (drop d text)

    -- where one digit more is too much, no longer front passes
    large_fails : d < run → (m : ℕ) → d < m → passes m ≡ false
    large_fails lt m longer =
        let k = min m run in
        let more : 2 ^ 63 ≤ value_of base (take k text) = omega (arith, large lt, value_of-take base (d + 1) k text (omega arith) (omega arith)) in
        passes_is m k (m - k) refl (omega arith) ∙ asks_large base (take k text) (take (m - k) (drop k text)) more

    no_letters : d < run → letters ≡ 0
    no_letters lt =
        let longer = prefix_len-le-length is_base text in
        prefix_len-drop_no is_letter text d 0 (omega arith) (letter_is_none (get_or text d 0) (prefix_len_passes is_base text d 0 lt))

    length-front : length (take d text) ≡ d
    length-front = omega (arith, length-take d text)

    front_passes : 0 < d → passes (d + letters) ≡ true
    front_passes some = elim (cases_lt d run) [
      | inl lt ↦
          let none = no_letters lt in
          passes_is (d + letters) d letters (omega arith) refl
          ∙ asks_yes base (take d text) (take letters (drop d text)) (omega (arith, length-front)) (list_all-take-within is_letter letters (drop d text) (omega arith)) small
      | inr le ↦
          passes_is (d + letters) d letters (omega arith) refl
          ∙ asks_yes base (take d text) (take letters (drop d text)) (omega (arith, length-front)) (list_all-take-within is_letter letters (drop d text) (omega arith)) small
    ]

    longer_fails : (m : ℕ) → d + letters < m → m ≤ length text → passes m ≡ false
    longer_fails m longer fits = elim (cases_lt d run) [
      | inl lt ↦ large_fails lt m (omega arith)
      | inr le ↦
          let following = list_all-take-past is_letter (m - d) (drop d text) (omega arith) (omega (arith, length-drop d text)) in
          passes_is m d (m - d) (omega arith) (omega arith) ∙ asks_suffix base (take d text) (take (m - d) (drop d text)) following
    ]

    pub numeral_len-some : 0 < d → d + letters ≡ longest_up_to (λ front. is_some (numeral_of base front)) text (length text)
    numeral_len-some some =
        let fits : d + letters ≤ length text = omega (arith, prefix_len-le-length is_letter (drop d text), length-drop d text) in
        sym (longest_up_to-is (λ front. is_some (numeral_of base front)) text (d + letters) (length text) fits (front_passes some) longer_fails)

    pub numeral_len-none : d ≡ 0 → 0 ≡ longest_up_to (λ front. is_some (numeral_of base front)) text (length text)
    numeral_len-none none =
        sym (longest_up_to-none (λ front. is_some (numeral_of base front)) text (length text) (λ m some fits. elim (cases_lt d run) [
          | inl lt ↦ large_fails lt m (omega arith)
          | inr le ↦
              let start : min m run ≡ 0 = omega arith in
              passes_is m 0 m start (omega arith) ∙ asks_none base [] (take m text) refl
        ]))

-- ---- the base of a literal

-- after 0 and x, one character or two are read before the digits
longest_after : (p q : List ℕ → Bool) (a b : ℕ) (text : List ℕ) → p (a ∷ []) ≡ true → q [] ≡ false → ((front : List ℕ) → p (a ∷ b ∷ front) ≡ q front) → (n : ℕ)
    → longest_up_to p (a ∷ b ∷ text) (suc (suc n)) ≡ cond (longest_up_to q text n == 0) 1 (suc (suc (longest_up_to q text n)))
longest_after p q a b text one none same zero = rw (same [], none, one) refl
longest_after p q a b text one none same (suc n) = elim (cases_Bool (q (take (suc n) text))) [
  | inl e ↦ rw (same (take (suc n) text), e, ne_eqb (suc n) 0 (λ h. omega arith)) refl
  | inr e ↦ rw (same (take (suc n) text), e) (longest_after p q a b text one none same n)
]

abbrev pub is_hex : List ℕ → Bool
is_hex text = starts_with nat_eq text (codes "0x") || starts_with nat_eq text (codes "0X")

abbrev pub begins_with_0 : List ℕ → Bool
begins_with_0 text = starts_with nat_eq text (codes "0")

abbrev pub is_integer : List ℕ → Bool
is_integer front = is_some (integer_of front)

abbrev pub is_numeral : ℕ → List ℕ → Bool
is_numeral base front = is_some (numeral_of base front)

pub hex_is : (a b : ℕ) (rest : List ℕ) → is_hex (a ∷ b ∷ rest) ≡ true → is_integer (a ∷ b ∷ rest) ≡ is_numeral 16 rest
unfolding integer_of
hex_is a b rest e = rw e refl

pub octal_is : (text : List ℕ) → is_hex text ≡ false → begins_with_0 text ≡ true → is_integer text ≡ is_numeral 8 text
unfolding integer_of
octal_is text hex zeros = rw (hex, zeros) refl

pub decimal_is : (text : List ℕ) → is_hex text ≡ false → begins_with_0 text ≡ false → is_integer text ≡ is_numeral 10 text
unfolding integer_of
decimal_is text hex zeros = rw (hex, zeros) refl

twice_false : (b : Bool) → ((b && false) || (b && false)) ≡ false
twice_false true = refl
twice_false false = refl

is_hex-one : (a : ℕ) → is_hex (a ∷ []) ≡ false
is_hex-one a = twice_false (48 == a)

is_hex-take : (m : ℕ) (text : List ℕ) → is_hex text ≡ false → is_hex (take m text) ≡ false
is_hex-take zero text e = refl
is_hex-take (suc m) [] e = refl
is_hex-take (suc zero) (a ∷ text) e = is_hex-one a
is_hex-take (suc (suc m)) (a ∷ []) e = is_hex-one a
is_hex-take (suc (suc m)) (a ∷ b ∷ text) e = e

begins_with_0-take : (m : ℕ) (text : List ℕ) → begins_with_0 (take (suc m) text) ≡ begins_with_0 text
begins_with_0-take m [] = refl
begins_with_0-take m (a ∷ text) = refl

pub octal_len : (text : List ℕ) (n : ℕ) → false ≡ is_hex text → true ≡ begins_with_0 text → n ≡ longest_up_to (is_numeral 8) text (length text) → n ≡ integer_len text
unfolding integer_len integer_of
octal_len text n hex zeros e = e ∙ sym (longest_up_to-same is_integer (is_numeral 8) text (length text) (λ m. front m))
  where
    front : (m : ℕ) → is_integer (take m text) ≡ is_numeral 8 (take m text)
    front zero = refl
    front (suc m) = octal_is (take (suc m) text) (is_hex-take (suc m) text (sym hex)) (begins_with_0-take m text ∙ sym zeros)

pub decimal_len : (text : List ℕ) (n : ℕ) → false ≡ is_hex text → false ≡ begins_with_0 text → n ≡ longest_up_to (is_numeral 10) text (length text) → n ≡ integer_len text
unfolding integer_len integer_of
decimal_len text n hex zeros e = e ∙ sym (longest_up_to-same is_integer (is_numeral 10) text (length text) (λ m. front m))
  where
    front : (m : ℕ) → is_integer (take m text) ≡ is_numeral 10 (take m text)
    front zero = refl
    front (suc m) = decimal_is (take (suc m) text) (is_hex-take (suc m) text (sym hex)) (begins_with_0-take m text ∙ sym zeros)

zero_alone : (a : ℕ) → a ≡ 48 → is_integer (a ∷ []) ≡ true
unfolding integer_of
zero_alone a e = rw e refl

pub hex_zero : (a b : ℕ) (rest : List ℕ) → is_hex (a ∷ b ∷ rest) ≡ true → a ≡ 48
hex_zero a b rest e = elim (or_cases (starts_with nat_eq (a ∷ b ∷ rest) (codes "0x")) (starts_with nat_eq (a ∷ b ∷ rest) (codes "0X")) e) [
  | inl x ↦ sym (eqb-true 48 a (and_parts (48 == a) _ x).0)
  | inr x ↦ sym (eqb-true 48 a (and_parts (48 == a) _ x).0)
]

pub hex_len : (text : List ℕ) (n : ℕ) → true ≡ is_hex text → n ≡ longest_up_to (is_numeral 16) (take (length text - 2) (drop 2 text)) (length (take (length text - 2) (drop 2 text)))
    → integer_len text ≡ cond (n == 0) 1 (suc (suc n))
unfolding integer_len
hex_len [] n hex e = absurd cc
hex_len (a ∷ []) n hex e = let none : true ≡ false = hex ∙ is_hex-one a in absurd cc
hex_len (a ∷ b ∷ rest) n hex e =
    let all : take (length (a ∷ b ∷ rest) - 2) (drop 2 (a ∷ b ∷ rest)) ≡ rest = take_rest (a ∷ b ∷ rest) 2 in
    let same : n ≡ longest_up_to (is_numeral 16) rest (length rest) = e ∙ ap (λ text. longest_up_to (is_numeral 16) text (length text)) all in
    rw same (longest_after is_integer (is_numeral 16) a b rest (zero_alone a (hex_zero a b rest (sym hex))) refl (λ front. hex_is a b front (sym hex)) (length rest))

pub hex_len-some : (n len : ℕ) → len ≡ cond (n == 0) 1 (suc (suc n)) → 0 < n → 2 + n ≡ len
hex_len-some n len e some =
    let other : (n == 0) ≡ false = ne_eqb n 0 (λ h. omega arith) in
    let all : len ≡ suc (suc n) = rw other at e in
    omega arith
