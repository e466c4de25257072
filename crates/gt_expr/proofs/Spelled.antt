-- Parts that are spelled with white space between them are the parts of that text.
use Rattle.std.proofs.Common.{◌≡◌, ℕ, suc, ℤ, pos, ◌+◌, ◌-◌, ◌/◌, ◌%◌, ◌<◌, ◌≤◌, Bool, true, false, cond, not, ◌&&◌, ◌||◌, List, [], ◌∷◌, ◌++◌, length, take, drop, Option, Some, None, refl, sym, ap, ◌∙◌, append_assoc, arith, inl, inr, lit<}
use lib.Utf8.{encode, scalar as scalar_of}
use Rattle.std.specs.Prelude.{encode_utf8_all, codes, ◌==◌, nat_lt}
use Rattle.std.specs.Char.{IsScalar, len_utf8, digit_value, is_digit, is_ascii_alphabetic, is_ascii_alphanumeric}
use Rattle.unicode_ident.proofs.IdentLemmas.{is_xid_start-ascii, is_xid_continue-ascii, is_xid_start-is_xid_continue}
use Rattle.unicode_ident.specs.Ident.{is_xid_start, is_xid_continue}
use Rattle.std.specs.Option.{option_map}
use Rattle.std.specs.List.{prefix_len, list_any, list_all}
use Rattle.std.specs.Str.{chars, all_scalars}
use Rattle.std.proofs.Math.Seq.{take-append-add}
use Rattle.std.proofs.lemmas.Bool.{cases_lt, lt-ltb, le-ltb, and_parts, and_from, or_left, or_right, agree_below_at, or_cases, or_parts, and_right, both_ways, cases_Bool, false_from_ne_true, eqb-true, ne_eqb, ltb-true, not-true}
use Rattle.std.proofs.lemmas.List.{append-nil, take_at, drop_at, drop-append-le, length-append, take_rest}
use Rattle.std.proofs.lemmas.Option.{same_Some}
use Rattle.std.proofs.lemmas.List.Folds.{length-prefix_len}
use Rattle.std.proofs.lemmas.Str.{is_utf8-from_IsUtf8, IsUtf8-encode, chars_past_char, length-encode, len_utf8_bounds, encode_ascii, chars-encodes}
use Rattle.gt_text.specs.Identifier.{starts_identifier_of, continues_identifier_of}
use Rattle.gt_text.specs.Integer.{integer_of, digits_of, suffix_of, is_suffix_of}
use Rattle.gt_text.specs.WhiteSpace.{is_white_space_of}
use Rattle.gt_expr.specs.Characters.{front_of, character_at, begins_with, run_after}
use Rattle.gt_expr.specs.Parts.{integer_len, name_len, symbol_at, word_at, part_at, parts_after, parts_of, BeginsPart}
use Rattle.gt_types.specs.declared.expressions.Base.TheVariants.{Here, Outer, Outermost}
use Rattle.gt_types.specs.declared.expressions.Op.TheVariants.{Not, Add, Sub, Mul, Lt, Le, Gt, Ge, Eq, Ne, And, Or}
use Rattle.gt_expr.specs.declared.part.Part.{Part}
use Rattle.gt_expr.specs.declared.part.Part.TheVariants.{Integer, Name, Percent, Operator, Question, Colon, Dot, Open, Close}
use Rattle.gt_expr.specs.Spelling.{symbol_text, IsIdentifier, IsSpelling, Spells, no_parts, white_space, one_part}
use Rattle.gt_expr.proofs.IntegersLemmas.{longest_up_to-is, numeral_some, asks_suffix, is_hex, begins_with_0, is_integer, is_numeral, hex_is, octal_is, decimal_is, decimal_len, numeral_len-none}
use Rattle.gt_expr.proofs.CharactersLemmas.{run_after-yes, run_after-no}
use Rattle.gt_expr.proofs.PartsLemmas.{parts_of-part}

-- ---- characters

-- the first byte of a character says how many bytes it has
front_one : (a : ℕ) (rest : List ℕ) → a < 128 → front_of (a ∷ rest) ≡ a ∷ []
front_one a rest h = rw (lt-ltb a 128 h) refl

front_two : (a b : ℕ) (rest : List ℕ) → 128 ≤ a → a < 224 → front_of (a ∷ b ∷ rest) ≡ a ∷ b ∷ []
front_two a b rest low high = rw (le-ltb a 128 low, lt-ltb a 224 high) refl

front_three : (a b c : ℕ) (rest : List ℕ) → 224 ≤ a → a < 240 → front_of (a ∷ b ∷ c ∷ rest) ≡ a ∷ b ∷ c ∷ []
front_three a b c rest low high = rw (le-ltb a 128 (omega arith), le-ltb a 224 low, lt-ltb a 240 high) refl

front_four : (a b c d : ℕ) (rest : List ℕ) → 240 ≤ a → front_of (a ∷ b ∷ c ∷ d ∷ rest) ≡ a ∷ b ∷ c ∷ d ∷ []
front_four a b c d rest low = rw (le-ltb a 128 (omega arith), le-ltb a 224 (omega arith), le-ltb a 240 low) refl

front_of-encode : (c : ℕ) (rest : List ℕ) → front_of (encode c ++ rest) ≡ encode c
unfolding encode
front_of-encode c rest = elim (cases_lt c 128) [
  | inl one ↦ rw (lt-ltb c 128 one) (front_one c rest one)
  | inr two ↦ elim (cases_lt c 2048) [
    | inl high ↦ rw (le-ltb c 128 two, lt-ltb c 2048 high) (front_two (192 + c / 64) (128 + c % 64) rest (omega arith) (omega arith))
    | inr three ↦ elim (cases_lt c 65536) [
      | inl high ↦
          rw (le-ltb c 128 two, le-ltb c 2048 three, lt-ltb c 65536 high)
          (front_three (224 + c / 4096) (128 + c / 64 % 64) (128 + c % 64) rest (omega arith) (omega arith))
      | inr four ↦
          rw (le-ltb c 128 two, le-ltb c 2048 three, le-ltb c 65536 four)
          (front_four (240 + c / 262144) (128 + c / 4096 % 64) (128 + c / 64 % 64) (128 + c % 64) rest (omega arith))
    ]
  ]
]

character_at-encode : (c : ℕ) (rest : List ℕ) → IsScalar c → character_at (encode c ++ rest) ≡ Some c
unfolding character_at
character_at-encode c rest scalar =
    let utf8 = IsUtf8-encode c scalar in
    let one : chars (encode c) ≡ c ∷ chars [] = chars_past_char (encode c) [] c utf8 (sym (append-nil (encode c))) in
    rw (front_of-encode c rest, is_utf8-from_IsUtf8 (encode c) utf8, one) refl

-- a character of one byte
character_at-ascii : (b : ℕ) (rest : List ℕ) → b < 128 → character_at (b ∷ rest) ≡ Some b
character_at-ascii b rest h =
    ap (λ bytes. character_at (bytes ++ rest)) (sym (encode_ascii b h)) ∙ character_at-encode b rest (rw (lt-ltb b 55296 (omega arith)) refl)

-- ---- white space and digits

-- white space is no digit and no letter of a suffix, and begins and continues no identifier
record IsBlank (w : ℕ) : Type 0 where
  ascii : w < 128
  digit : (base : ℕ) → base ≤ 16 → is_digit w base ≡ false
  letter : list_any (λ letter. letter == w) (codes "uUlL") ≡ false
  continues : continues_identifier_of w ≡ false
  zero_is : (48 == w) ≡ false
  small_x : (120 == w) ≡ false
  large_x : (88 == w) ≡ false
  equals : (61 == w) ≡ false

blank_is : (n w : ℕ) → n ≡ w → n < 128 → digit_value n ≡ 36 → list_any (λ letter. letter == n) (codes "uUlL") ≡ false → ((n == 95) || (is_ascii_alphanumeric n || (n == 95))) ≡ false
    → ((48 == n) || (120 == n) || (88 == n) || (61 == n)) ≡ false → IsBlank w
unfolding continues_identifier_of
blank_is n w e ascii digit letter other signs =
    let apart = or_parts ((48 == n) || (120 == n) || (88 == n)) (61 == n) signs in
    let three = or_parts ((48 == n) || (120 == n)) (88 == n) apart.0 in
    let two = or_parts (48 == n) (120 == n) three.0 in
    rw (← e) (record {
      ascii = ascii;
      digit = λ base most. rw digit (le-ltb 36 base (omega arith));
      letter = letter;
      continues = rw (is_xid_continue-ascii n ascii) other;
      zero_is = two.0;
      small_x = two.1;
      large_x = three.1;
      equals = apart.1;
    })

blank_at : (w : ℕ) → is_white_space_of w ≡ true → IsBlank w
unfolding is_white_space_of
blank_at w e = elim (or_cases (9 == w) _ e) [
  | inl tab ↦ blank_is 9 w (eqb-true 9 w tab) (lit< tt) refl refl refl refl
  | inr e ↦ elim (or_cases (10 == w) _ e) [
    | inl newline ↦ blank_is 10 w (eqb-true 10 w newline) (lit< tt) refl refl refl refl
    | inr e ↦ elim (or_cases (11 == w) _ e) [
      | inl vertical ↦ blank_is 11 w (eqb-true 11 w vertical) (lit< tt) refl refl refl refl
      | inr e ↦ elim (or_cases (12 == w) _ e) [
        | inl feed ↦ blank_is 12 w (eqb-true 12 w feed) (lit< tt) refl refl refl refl
        | inr e ↦ elim (or_cases (13 == w) _ e) [
          | inl back ↦ blank_is 13 w (eqb-true 13 w back) (lit< tt) refl refl refl refl
          | inr e ↦ elim (or_cases (32 == w) _ e) [
            | inl space ↦ blank_is 32 w (eqb-true 32 w space) (lit< tt) refl refl refl refl
            | inr e ↦ absurd cc
          ]
        ]
      ]
    ]
  ]
]

-- ---- integers

one_at_most : (t : Bool) (m n : ℕ) → m ≤ n → cond t (1 + m) 0 ≤ suc n
one_at_most true m n h = omega arith
one_at_most false m n h = omega arith

prefix_len-stops : (p : ℕ → Bool) (a : List ℕ) (w : ℕ) (b : List ℕ) → p w ≡ false → prefix_len p (a ++ w ∷ b) ≤ length a
prefix_len-stops p [] w b e = rw e (omega arith)
prefix_len-stops p (x ∷ xs) w b e = one_at_most (p x) (prefix_len p (xs ++ w ∷ b)) (length xs) (prefix_len-stops p xs w b e)

list_all-stops : (p : ℕ → Bool) (a : List ℕ) (w : ℕ) (b : List ℕ) → p w ≡ false → list_all p (a ++ w ∷ b) ≡ false
list_all-stops p [] w b e = rw e refl
list_all-stops p (x ∷ xs) w b e = rw (list_all-stops p xs w b e) (and_right (p x) false refl)

-- no numeral and no literal has white space in it
numeral_blank : (base : ℕ) → base ≤ 16 → (a : List ℕ) (w : ℕ) (b : List ℕ) → IsBlank w → is_numeral base (a ++ w ∷ b) ≡ false
numeral_blank base most a w b blank =
    let text = a ++ w ∷ b in
    let k = prefix_len (λ c. is_digit c base) text in
    let count : length (digits_of base text) ≡ k = length-prefix_len (λ c. is_digit c base) text in
    let within : k ≤ length a = prefix_len-stops (λ c. is_digit c base) a w b (blank.digit base most) in
    let following : suffix_of base text ≡ drop k a ++ w ∷ b = ap (λ n. drop n text) count ∙ drop-append-le k a (w ∷ b) within in
    let fails : is_suffix_of (suffix_of base text) ≡ false = rw following (list_all-stops (λ c. list_any (λ letter. letter == c) (codes "uUlL")) (drop k a) w b blank.letter) in
    numeral_some base text ∙ asks_suffix base (digits_of base text) (suffix_of base text) fails

hex_blank : (a : List ℕ) (w : ℕ) (b : List ℕ) → IsBlank w → is_hex (a ++ w ∷ b) ≡ true → is_integer (a ++ w ∷ b) ≡ false
hex_blank [] w [] blank e = absurd (both_ways _ (rw blank.zero_is refl) e)
hex_blank [] w (x ∷ b) blank e = absurd (both_ways _ (rw blank.zero_is refl) e)
hex_blank (x ∷ []) w b blank e = absurd (both_ways _ (rw (blank.small_x, blank.large_x) (twice (48 == x))) e)
  where
    twice : (t : Bool) → ((t && (false && true)) || (t && (false && true))) ≡ false
    twice true = refl
    twice false = refl
hex_blank (x ∷ y ∷ a) w b blank e = hex_is x y (a ++ w ∷ b) e ∙ numeral_blank 16 (omega arith) a w b blank

integer_blank : (a : List ℕ) (w : ℕ) (b : List ℕ) → IsBlank w → is_integer (a ++ w ∷ b) ≡ false
integer_blank a w b blank = elim (cases_Bool (is_hex (a ++ w ∷ b))) [
  | inl hex ↦ hex_blank a w b blank hex
  | inr other ↦ elim (cases_Bool (begins_with_0 (a ++ w ∷ b))) [
    | inl zeros ↦ octal_is (a ++ w ∷ b) other zeros ∙ numeral_blank 8 (omega arith) a w b blank
    | inr none ↦ decimal_is (a ++ w ∷ b) other none ∙ numeral_blank 10 (omega arith) a w b blank
  ]
]

-- an integer literal after which white space stands is the longest
literal_len : (front : List ℕ) (w : ℕ) (rest : List ℕ) → is_integer front ≡ true → IsBlank w → integer_len (front ++ w ∷ rest) ≡ length front
unfolding integer_len
literal_len front w rest e blank =
    let text = front ++ w ∷ rest in
    longest_up_to-is is_integer text (length front) (length text) (omega (arith, length-append front (w ∷ rest)))
    (rw (take_at front (w ∷ rest) (length front) refl) e)
    (λ m longer fits.
    let k : m ≡ length front + suc (m - suc (length front)) = omega arith in
    let split : take m text ≡ front ++ w ∷ take (m - suc (length front)) rest = ap (λ n. take n text) k ∙ take-append-add front (w ∷ rest) (suc (m - suc (length front))) in
    rw split (integer_blank front w (take (m - suc (length front)) rest) blank))

-- no integer begins with another byte than a digit
no_integer : (b : ℕ) (bs : List ℕ) → is_digit b 10 ≡ false → integer_len (b ∷ bs) ≡ 0
no_integer b bs other =
    let zero_is : (48 == b) ≡ false = ne_eqb 48 b (λ e. both_ways _ other (rw (← e) refl)) in
    let hex : is_hex (b ∷ bs) ≡ false = rw zero_is refl in
    let zeros : begins_with_0 (b ∷ bs) ≡ false = rw zero_is refl in
    let run : prefix_len (λ c. is_digit c 10) (b ∷ bs) ≡ 0 = rw other refl in
    sym (decimal_len (b ∷ bs) 0 (sym hex) (sym zeros)
    (numeral_len-none 10 (b ∷ bs) (omega arith) (omega arith) 0 (omega arith) (omega arith) (lit< tt) (λ more. absurd (omega arith)) refl))

-- ---- parts

-- the text begins with the part, which has so many bytes
record Front (text : List ℕ) (p : Part) (n : ℕ) : Type 0 where
  some : 0 < n
  begins : BeginsPart text
  part : part_at text ≡ (p, n)

some_value : (o : Option ℕ) (value : ℤ) → option_map pos o ≡ Some value → (n : ℕ) × (o ≡ Some n) × (pos n ≡ value)
some_value (Some n) value e = (n, refl, cc)
some_value None value e = absurd cc

first_is_dark : (front : List ℕ) (w : ℕ) (rest : List ℕ) → is_integer front ≡ true → BeginsPart (front ++ w ∷ rest) × (0 < length front)
unfolding integer_of
first_is_dark [] w rest e = absurd cc
first_is_dark (b ∷ bs) w rest e =
    (false_from_ne_true (is_white_space_of b) (λ white. both_ways _ (integer_blank [] b bs (blank_at b white)) e), omega arith)

integer_front : (front : List ℕ) (w : ℕ) (rest : List ℕ) (value : ℤ) → option_map pos (integer_of front) ≡ Some value → IsBlank w → Front (front ++ w ∷ rest) (Integer value) (length front)
unfolding part_at
integer_front front w rest value e blank =
    let found = some_value (integer_of front) value e in
    let is : is_integer front ≡ true = rw found.1 refl in
    let len = literal_len front w rest is blank in
    let dark = first_is_dark front w rest is in
    record {
      some = dark.1;
      begins = dark.0;
      part = rw (len, take_at front (w ∷ rest) (length front) refl, found.1, found.2) refl;
    }

-- what begins with another byte than a digit is a word
word_front : (b : ℕ) (bs : List ℕ) → is_digit b 10 ≡ false → part_at (b ∷ bs) ≡ word_at (b ∷ bs)
unfolding part_at integer_of
word_front b bs other = rw (no_integer b bs other) refl

-- ---- identifiers

starts_continues : (c : ℕ) → starts_identifier_of c ≡ true → continues_identifier_of c ≡ true
unfolding starts_identifier_of continues_identifier_of
starts_continues c e = elim (or_cases (c == 95) (is_xid_start c) e) [
  | inl line ↦ or_left (c == 95) (is_xid_continue c) line
  | inr start ↦ or_right (c == 95) (is_xid_continue c) (is_xid_start-is_xid_continue c start)
]

-- the first byte of an identifier
record Dark (text : List ℕ) : Type 0 where
  first : ℕ
  others : List ℕ
  is : text ≡ first ∷ others
  digit : is_digit first 10 ≡ false
  white : is_white_space_of first ≡ false

digit_large : (b : ℕ) → 123 ≤ b → is_digit b 10 ≡ false
digit_large b h =
    rw (le-ltb b 48 (omega arith), le-ltb b 58 (omega arith), le-ltb b 65 (omega arith), le-ltb b 91 (omega arith), le-ltb b 97 (omega arith), le-ltb b 123 h) refl

encode_large : (c : ℕ) → 128 ≤ c → (b : ℕ) × (bs : List ℕ) × (encode c ≡ b ∷ bs) × (128 ≤ b)
unfolding encode
encode_large c h = elim (cases_lt c 2048) [
  | inl two ↦ (192 + c / 64, (128 + c % 64) ∷ [], rw (le-ltb c 128 h, lt-ltb c 2048 two) refl, omega arith)
  | inr three ↦ elim (cases_lt c 65536) [
    | inl high ↦ (224 + c / 4096, (128 + c / 64 % 64) ∷ (128 + c % 64) ∷ [], rw (le-ltb c 128 h, le-ltb c 2048 three, lt-ltb c 65536 high) refl, omega arith)
    | inr four ↦
        (240 + c / 262144, (128 + c / 4096 % 64) ∷ (128 + c / 64 % 64) ∷ (128 + c % 64) ∷ [], rw (le-ltb c 128 h, le-ltb c 2048 three, le-ltb c 65536 four) refl, omega arith)
  ]
]

dark_large : (c : ℕ) (rest : List ℕ) → 128 ≤ c → Dark (encode c ++ rest)
dark_large c rest h =
    let large = encode_large c h in
    record {
      first = large.0;
      others = large.1 ++ rest;
      is = ap (λ bytes. bytes ++ rest) large.2;
      digit = digit_large large.0 (omega (arith, large.3));
      white = false_from_ne_true (is_white_space_of large.0) (λ white. absurd (omega (arith, large.3, (blank_at large.0 white).ascii)));
    }

dark_small : (c : ℕ) (rest : List ℕ) → c < 128 → starts_identifier_of c ≡ true → Dark (encode c ++ rest)
unfolding starts_identifier_of
dark_small c rest h starts =
    let alphabetic : ((c == 95) || is_ascii_alphabetic c) ≡ true = rw (← is_xid_start-ascii c h) starts in
    let both = agree_below_at (λ b. ((b == 95) || is_ascii_alphabetic b) && is_digit b 10) (λ b. false) 128 c refl h in
    record {
      first = c;
      others = rest;
      is = ap (λ bytes. bytes ++ rest) (encode_ascii c h);
      digit = rw alphabetic at both;
      white = false_from_ne_true (is_white_space_of c) (λ white. both_ways _ (blank_at c white).continues (starts_continues c starts));
    }

dark_at : (c : ℕ) (rest : List ℕ) → starts_identifier_of c ≡ true → Dark (encode c ++ rest)
dark_at c rest starts = elim (cases_lt c 128) [ inl small ↦ dark_small c rest small starts | inr large ↦ dark_large c rest large ]

run_name : (cs : List ℕ) (w : ℕ) (rest : List ℕ) → all_scalars cs ≡ true → list_all continues_identifier_of cs ≡ true → IsBlank w
    → run_after 0 continues_identifier_of (encode_utf8_all cs ++ w ∷ rest) ≡ length (encode_utf8_all cs)
run_name [] w rest scalars continue blank = run_after-no continues_identifier_of (w ∷ rest) (rw (character_at-ascii w rest blank.ascii) blank.continues)
run_name (c ∷ cs) w rest scalars continue blank =
    let scalar = and_parts (scalar_of c) (all_scalars cs) scalars in
    let goes = and_parts (continues_identifier_of c) (list_all continues_identifier_of cs) continue in
    let tail = encode_utf8_all cs ++ w ∷ rest in
    let flat : encode_utf8_all (c ∷ cs) ++ w ∷ rest ≡ encode c ++ tail = append_assoc (encode c) (encode_utf8_all cs) (w ∷ rest) in
    let step = run_after-yes continues_identifier_of (encode c ++ tail) c (character_at-encode c tail scalar.0) goes.0 in
    let following : drop (len_utf8 c) (encode c ++ tail) ≡ tail = drop_at (encode c) tail (len_utf8 c) (length-encode c) in
    let more : run_after 0 continues_identifier_of tail ≡ length (encode_utf8_all cs) = run_name cs w rest scalar.1 goes.1 blank in
    ap (λ text. run_after 0 continues_identifier_of text) flat
    ∙ step
    ∙ rw (following, more) (omega (arith, length-append (encode c) (encode_utf8_all cs), length-encode c))

word_named : (text name : List ℕ) (n : ℕ) → name_len text ≡ n → (n == 0) ≡ false → chars (take n text) ≡ name → word_at text ≡ (Name name, n)
unfolding word_at
word_named text name n len some is = rw (len, some, is) refl

name_front : (c : ℕ) (cs : List ℕ) (w : ℕ) (rest : List ℕ) → IsIdentifier (c ∷ cs) → IsBlank w
    → Front (encode_utf8_all (c ∷ cs) ++ w ∷ rest) (Name (c ∷ cs)) (length (encode_utf8_all (c ∷ cs)))
unfolding name_len
name_front c cs w rest is blank =
    let scalar = and_parts (scalar_of c) (all_scalars cs) is.0 in
    let name = encode_utf8_all (c ∷ cs) in
    let text = name ++ w ∷ rest in
    let tail = encode_utf8_all cs ++ w ∷ rest in
    let flat : text ≡ encode c ++ tail = append_assoc (encode c) (encode_utf8_all cs) (w ∷ rest) in
    let dark = dark_at c tail is.1 in
    let begins : begins_with starts_identifier_of text ≡ true = rw (flat, character_at-encode c tail scalar.0) is.1 in
    let goes : list_all continues_identifier_of (c ∷ cs) ≡ true = and_from _ _ (starts_continues c is.1) is.2 in
    let len : name_len text ≡ length name = rw (begins, run_name (c ∷ cs) w rest is.0 goes blank) refl in
    let some : 0 < length name = omega (arith, length-append (encode c) (encode_utf8_all cs), length-encode c, (len_utf8_bounds c).0) in
    let other : (length name == 0) ≡ false = ne_eqb (length name) 0 (λ e. omega arith) in
    let word : word_at text ≡ (Name (c ∷ cs), length name) =
    word_named text (c ∷ cs) (length name) len other (ap chars (take_at name (w ∷ rest) (length name) refl) ∙ chars-encodes (c ∷ cs) is.0) in
    record {
      some = some;
      begins = rw (flat, dark.is) dark.white;
      part = ap part_at (flat ∙ dark.is) ∙ word_front dark.first dark.others dark.digit ∙ ap word_at (sym (flat ∙ dark.is)) ∙ word;
    }

-- ---- symbols

-- a byte that begins no integer and no identifier, and is no white space
abbrev is_sign : ℕ → Bool
is_sign b = nat_lt b 128 && not (is_digit b 10) && not ((b == 95) || is_ascii_alphabetic b) && not (is_white_space_of b)

sign_front : (b : ℕ) (bs : List ℕ) (p : Part) (n : ℕ) → is_sign b ≡ true → 0 < n → symbol_at (b ∷ bs) ≡ (p, n) → Front (b ∷ bs) p n
unfolding name_len word_at starts_identifier_of
sign_front b bs p n sign some e =
    let dark = and_parts _ (not (is_white_space_of b)) sign in
    let other = and_parts _ (not ((b == 95) || is_ascii_alphabetic b)) dark.0 in
    let digit = and_parts (nat_lt b 128) (not (is_digit b 10)) other.0 in
    let ascii : b < 128 = ltb-true b 128 digit.0 in
    let fails : ((b == 95) || is_ascii_alphabetic b) ≡ false = not-true _ other.1 in
    let begins : begins_with starts_identifier_of (b ∷ bs) ≡ false = rw (character_at-ascii b bs ascii, is_xid_start-ascii b ascii) fails in
    let len : name_len (b ∷ bs) ≡ 0 = rw begins refl in
    let word : word_at (b ∷ bs) ≡ (p, n) = rw len e in
    record { some = some; begins = not-true _ dark.1; part = word_front b bs (not-true _ digit.1) ∙ word }

sign_text : (b : ℕ) (bs front : List ℕ) (w : ℕ) (rest : List ℕ) (p : Part) → ◌≡◌ {A = Option (List ℕ)} (Some (b ∷ bs)) (Some front) → is_sign b ≡ true
    → symbol_at (b ∷ bs ++ w ∷ rest) ≡ (p, length (b ∷ bs)) → Front (front ++ w ∷ rest) p (length front)
sign_text b bs front w rest p e sign symbol =
    rw (← same_Some (b ∷ bs) front e) (sign_front b (bs ++ w ∷ rest) p (length (b ∷ bs)) sign (omega arith) symbol)

symbol_front : (p : Part) (front : List ℕ) (w : ℕ) (rest : List ℕ) → symbol_text p ≡ Some front → IsBlank w → Front (front ++ w ∷ rest) p (length front)
unfolding symbol_at is_white_space_of
symbol_front (Percent Here) front w rest e blank = sign_text 37 (104 ∷ []) front w rest (Percent Here) e refl refl
symbol_front (Percent Outer) front w rest e blank = sign_text 37 (49 ∷ []) front w rest (Percent Outer) e refl refl
symbol_front (Percent Outermost) front w rest e blank = sign_text 37 (48 ∷ []) front w rest (Percent Outermost) e refl refl
symbol_front (Operator Not) front w rest e blank = sign_text 33 [] front w rest (Operator Not) e refl (rw blank.equals refl)
symbol_front (Operator Sub) front w rest e blank = sign_text 45 [] front w rest (Operator Sub) e refl refl
symbol_front (Operator Add) front w rest e blank = sign_text 43 [] front w rest (Operator Add) e refl refl
symbol_front (Operator Mul) front w rest e blank = sign_text 42 [] front w rest (Operator Mul) e refl refl
symbol_front (Operator Lt) front w rest e blank = sign_text 60 [] front w rest (Operator Lt) e refl (rw blank.equals refl)
symbol_front (Operator Le) front w rest e blank = sign_text 60 (61 ∷ []) front w rest (Operator Le) e refl refl
symbol_front (Operator Gt) front w rest e blank = sign_text 62 [] front w rest (Operator Gt) e refl (rw blank.equals refl)
symbol_front (Operator Ge) front w rest e blank = sign_text 62 (61 ∷ []) front w rest (Operator Ge) e refl refl
symbol_front (Operator Eq) front w rest e blank = sign_text 61 (61 ∷ []) front w rest (Operator Eq) e refl refl
symbol_front (Operator Ne) front w rest e blank = sign_text 33 (61 ∷ []) front w rest (Operator Ne) e refl refl
symbol_front (Operator And) front w rest e blank = sign_text 38 (38 ∷ []) front w rest (Operator And) e refl refl
symbol_front (Operator Or) front w rest e blank = sign_text 124 (124 ∷ []) front w rest (Operator Or) e refl refl
symbol_front Question front w rest e blank = sign_text 63 [] front w rest Question e refl refl
symbol_front Colon front w rest e blank = sign_text 58 [] front w rest Colon e refl refl
symbol_front Dot front w rest e blank = sign_text 46 [] front w rest Dot e refl refl
symbol_front Open front w rest e blank = sign_text 40 [] front w rest Open e refl refl
symbol_front Close front w rest e blank = sign_text 41 [] front w rest Close e refl refl
symbol_front p front w rest e blank = absurd cc

-- ---- the text

spelled_front : (p : Part) (front : List ℕ) (w : ℕ) (rest : List ℕ) → IsSpelling front p → IsBlank w → Front (front ++ w ∷ rest) p (length front)
spelled_front (Integer value) front w rest is blank = integer_front front w rest value is blank
spelled_front (Name []) front w rest is blank = absurd is.0
spelled_front (Name (c ∷ cs)) front w rest is blank = rw is.1 (name_front c cs w rest is.0 blank)
spelled_front p front w rest is blank = symbol_front p front w rest is blank

parts_of-blank : (w : ℕ) (rest : List ℕ) → is_white_space_of w ≡ true → parts_of (w ∷ rest) ≡ parts_of rest
unfolding parts_after
parts_of-blank w rest e = rw e refl

pub parts_of-spelled : {text : List ℕ} {ps : List Part} → Spells text ps → parts_of text ≡ ps
unfolding parts_after
parts_of-spelled no_parts = refl
parts_of-spelled (white_space {rest} {ps} w white s) = parts_of-blank w rest white ∙ parts_of-spelled s
parts_of-spelled (one_part {rest} {p} {ps} front w white is s) =
    let text = front ++ w ∷ rest in
    let n = length front in
    let found = spelled_front p front w rest is (blank_at w white) in
    let within : n ≤ length text = omega (arith, length-append front (w ∷ rest)) in
    let following : take (length text - n) (drop n text) ≡ w ∷ rest = take_rest text n ∙ drop_at front (w ∷ rest) n refl in
    parts_of-part text p n found.begins within found.some (sym found.part)
    ∙ ap (λ qs. p ∷ parts_of qs) following
    ∙ ap (λ qs. p ∷ qs) (parts_of-blank w rest white ∙ parts_of-spelled s)
