-- A number reaches as far as its characters go on: the rules of its grammar, from the left and from the right.
use Rattle.std.proofs.Common.{◌≡◌, ℕ, ◌<◌, ◌≤◌, Bool, true, false, cond, List, [], ◌∷◌, ◌++◌, length, refl, sym, ap, subst, ◌∙◌, ⊎_elim, append_assoc, arith, lit<}
use Rattle.std.specs.Prelude.{◌&&◌, ◌||◌, ◌==◌, nat_le}
use Rattle.std.specs.Char.{is_ascii_digit}
use Rattle.std.specs.Int.{is_in_range}
use Rattle.std.proofs.lemmas.Bool.{false≢true, eqb-true, leb-true}
use Rattle.std.proofs.lemmas.List.{append-nil}
use Rattle.unicode_ident.specs.Ident.{is_xid_continue}
use Rattle.unicode_ident.proofs.IdentLemmas.{is_xid_continue-ascii}
use Rattle.gt_text.specs.Identifier.{continues_identifier_of}
use Rattle.gt_lex.proofs.Bools.{or_cases, and_cases, or_true}
use Rattle.gt_lex.specs.Characters.{dot, first_passes}
use Rattle.gt_lex.specs.Extents.{IsLongest, IsNumber, first_digit, first_point, digit, letter, exponent, point, is_exponent, is_sign}
use Rattle.gt_lex.specs.Reading.{continues_number_of, number_rest}

-- each character goes on after the one before it
abbrev pub Chain : ℕ → List ℕ → Type 0
Chain before [] = Unit {0}
Chain before (c ∷ cs) = (continues_number_of before c ≡ true) × Chain c cs

-- the last character, after a first one
abbrev pub last_of : ℕ → List ℕ → ℕ
last_of before [] = before
last_of before (c ∷ cs) = last_of c cs

-- the characters that go on a number, and what follows them
pub record NumberRun (before : ℕ) (cs rest : List ℕ) : Type 0 where
  pub front : List ℕ
  pub parts : cs ≡ front ++ rest
  pub chain : Chain before front
  pub stops : first_passes (continues_number_of (last_of before front)) rest ≡ false

number_step : (before c : ℕ) (cs : List ℕ) (b : Bool) → continues_number_of before c ≡ b → NumberRun c cs (number_rest c cs) → NumberRun before (c ∷ cs) (cond b (number_rest c cs) (c ∷ cs))
number_step before c cs true e run = record {
  front = c ∷ run.front;
  parts = ap (λ (x : List ℕ). c ∷ x) run.parts;
  chain = (e, run.chain);
  stops = run.stops;
}
number_step before c cs false e run = record { front = []; parts = refl; chain = tt; stops = e }

pub number_run_of : (before : ℕ) (cs : List ℕ) → NumberRun before cs (number_rest before cs)
number_run_of before [] = record { front = []; parts = refl; chain = tt; stops = refl }
number_run_of before (c ∷ cs) = number_step before c cs (continues_number_of before c) refl (number_run_of c cs)

-- ---- from the characters to the grammar

-- a letter of an exponent is one of four
at_exponent : (P : ℕ → Type 0) → P 101 → P 69 → P 112 → P 80 → (c : ℕ) → is_exponent c ≡ true → P c
at_exponent P a b d f c e =
    ⊎_elim (λ x. subst P (eqb-true 101 c x) a)
    (λ e1. ⊎_elim (λ x. subst P (eqb-true 69 c x) b)
    (λ e2. ⊎_elim (λ x. subst P (eqb-true 112 c x) d)
    (λ e3. ⊎_elim (λ x. subst P (eqb-true 80 c x) f) (λ none. absurd (false≢true none)) (or_cases (80 == c) false e3))
    (or_cases (112 == c) ((80 == c) || false) e2))
    (or_cases (69 == c) ((112 == c) || ((80 == c) || false)) e1))
    (or_cases (101 == c) ((69 == c) || ((112 == c) || ((80 == c) || false))) e)

-- a sign is none of them, and neither is a digit
sign_no_exponent : (c : ℕ) → is_sign c ≡ true → is_exponent c ≡ true → ⊥
sign_no_exponent c s e = at_exponent (λ x. is_sign x ≡ true → ⊥) false≢true false≢true false≢true false≢true c e s

digit_no_exponent : (c : ℕ) → is_ascii_digit c ≡ true → is_exponent c ≡ true → ⊥
digit_no_exponent c d e = at_exponent (λ x. is_ascii_digit x ≡ true → ⊥) false≢true false≢true false≢true false≢true c e d

-- a number so far, whose last character is known: where that is a letter of an exponent, a number stands before it
record Grown (done : List ℕ) (last : ℕ) : Type 0 where
  number : IsNumber done
  before : is_exponent last ≡ true → (ys : List ℕ) × IsNumber ys × (done ≡ ys ++ last ∷ [])

grows : (done : List ℕ) (last c : ℕ) → Grown done last → continues_number_of last c ≡ true → Grown (done ++ c ∷ []) c
grows done last c grown e =
    ⊎_elim
    (λ unsigned.
    ⊎_elim (λ more. record { number = letter done c grown.number more; before = λ _. (done, grown.number, refl) })
    (λ is_dot. record {
      number = subst (λ (x : ℕ). IsNumber (done ++ x ∷ [])) (sym (eqb-true _ _ is_dot)) (point done grown.number);
      before = λ _. (done, grown.number, refl);
    })
    (or_cases (continues_identifier_of c) (c == dot) unsigned))
    (λ signed.
    let both = and_cases (is_exponent last) (is_sign c) signed in
    let was = grown.before both.0 in
    record {
      number = subst IsNumber (sym (ap (λ (x : List ℕ). x ++ c ∷ []) was.2 ∙ append_assoc was.0 (last ∷ []) (c ∷ []))) (exponent was.0 last c was.1 both.0 both.1);
      before = λ is. absurd (sign_no_exponent c both.1 is);
    })
    (or_cases (continues_identifier_of c || (c == dot)) (is_exponent last && is_sign c) e)

number_grows : (done : List ℕ) (last : ℕ) (front : List ℕ) → Grown done last → Chain last front → IsNumber (done ++ front)
number_grows done last [] grown chain = subst IsNumber (sym (append-nil done)) grown.number
number_grows done last (c ∷ cs) grown chain =
    subst IsNumber (append_assoc done (c ∷ []) cs) (number_grows (done ++ c ∷ []) c cs (grows done last c grown chain.0) chain.1)

-- ---- from the grammar to the characters

xid_continues : (c : ℕ) → is_xid_continue c ≡ true → continues_identifier_of c ≡ true
unfolding continues_identifier_of
xid_continues c e = rw e (or_true (c == 95))

ascii_digit : (digits upper lower under : Bool) → digits ≡ true → (((digits || upper) || lower) || under) ≡ true
ascii_digit digits upper lower under d = rw d refl

digit_continues : (c : ℕ) → is_ascii_digit c ≡ true → continues_identifier_of c ≡ true
digit_continues c d =
    let low : c < 128 = omega (arith, leb-true c 57 (and_cases (nat_le 48 c) (nat_le c 57) d).1) in
    xid_continues c (is_xid_continue-ascii c low ∙ ascii_digit (is_ascii_digit c) (is_in_range 65 90 c) (is_in_range 97 122 c) (c == 95) d)

exponent_continues : (c : ℕ) → is_exponent c ≡ true → continues_identifier_of c ≡ true
exponent_continues c e =
    at_exponent (λ x. continues_identifier_of x ≡ true)
    (xid_continues 101 (is_xid_continue-ascii 101 (lit< tt)))
    (xid_continues 69 (is_xid_continue-ascii 69 (lit< tt)))
    (xid_continues 112 (is_xid_continue-ascii 112 (lit< tt)))
    (xid_continues 80 (is_xid_continue-ascii 80 (lit< tt)))
    c
    e

-- one more character at the end of a chain
Chain-push : (before : ℕ) (cs : List ℕ) (c : ℕ) → Chain before cs → continues_number_of (last_of before cs) c ≡ true → Chain before (cs ++ c ∷ [])
Chain-push before [] c chain e = (e, tt)
Chain-push before (x ∷ cs) c chain e = (chain.0, Chain-push x cs c chain.1 e)

Chain-push_two : (before : ℕ) (cs : List ℕ) (e c : ℕ) → Chain before cs → continues_number_of (last_of before cs) e ≡ true → continues_number_of e c ≡ true → Chain before (cs ++ e ∷ c ∷ [])
Chain-push_two before [] e c chain g h = (g, (h, tt))
Chain-push_two before (x ∷ cs) e c chain g h = (chain.0, Chain-push_two x cs e c chain.1 g h)

-- a number by its first character and a chain
record Chained (cs : List ℕ) : Type 0 where
  first : ℕ
  others : List ℕ
  parts : cs ≡ first ∷ others
  chain : Chain first others

Chained-push : (cs : List ℕ) (c : ℕ) → Chained cs → ((before : ℕ) → continues_number_of before c ≡ true) → Chained (cs ++ c ∷ [])
Chained-push cs c chained goes = record {
  first = chained.first;
  others = chained.others ++ c ∷ [];
  parts = ap (λ (x : List ℕ). x ++ c ∷ []) chained.parts;
  chain = Chain-push chained.first chained.others c chained.chain (goes (last_of chained.first chained.others));
}

Chained-push_two : (cs : List ℕ) (e c : ℕ) → Chained cs → ((before : ℕ) → continues_number_of before e ≡ true) → continues_number_of e c ≡ true → Chained (cs ++ e ∷ c ∷ [])
Chained-push_two cs e c chained goes h = record {
  first = chained.first;
  others = chained.others ++ e ∷ c ∷ [];
  parts = ap (λ (x : List ℕ). x ++ e ∷ c ∷ []) chained.parts;
  chain = Chain-push_two chained.first chained.others e c chained.chain (goes (last_of chained.first chained.others)) h;
}

letter_goes_on : (before c : ℕ) → continues_identifier_of c ≡ true → continues_number_of before c ≡ true
letter_goes_on before c e = rw e refl

dot_goes_on : (before : ℕ) → continues_number_of before dot ≡ true
dot_goes_on before = rw (or_true (continues_identifier_of dot)) refl

sign_goes_on : (e c : ℕ) → is_exponent e ≡ true → is_sign c ≡ true → continues_number_of e c ≡ true
sign_goes_on e c is signed = rw (is, signed) (or_true (continues_identifier_of c || (c == dot)))

chained_of : (cs : List ℕ) → IsNumber cs → Chained cs
chained_of _ (first_digit c d) = record { first = c; others = []; parts = refl; chain = tt }
chained_of _ (first_point c d) = record { first = dot; others = c ∷ []; parts = refl; chain = (letter_goes_on dot c (digit_continues c d), tt) }
chained_of _ (digit cs c is d) = Chained-push cs c (chained_of cs is) (λ before. letter_goes_on before c (digit_continues c d))
chained_of _ (letter cs c is d) = Chained-push cs c (chained_of cs is) (λ before. letter_goes_on before c d)
chained_of _ (exponent cs e sign is le s) = Chained-push_two cs e sign (chained_of cs is) (λ before. letter_goes_on before e (exponent_continues e le)) (sign_goes_on e sign le s)
chained_of _ (point cs is) = Chained-push cs dot (chained_of cs is) dot_goes_on

-- a chain is among the characters that go on
within_number : (before : ℕ) (xs more front rest : List ℕ) → Chain before xs → first_passes (continues_number_of (last_of before front)) rest ≡ false → xs ++ more ≡ front ++ rest → length xs ≤ length front
within_number before [] more front rest chain stops e = omega arith
within_number before (x ∷ xs) more [] rest chain stops e =
    let same : continues_number_of before x ≡ false = ap (first_passes (continues_number_of before)) e ∙ stops in
    absurd (false≢true (sym same ∙ chain.0))
within_number before (x ∷ xs) more (f ∷ front) rest chain stops e =
    let heads : x ≡ f = cc in
    let tails : xs ++ more ≡ front ++ rest = cc in
    omega (arith, within_number f xs more front rest (subst (λ (y : ℕ). Chain y xs) heads chain.1) stops tails)

longest_number : (c : ℕ) (front rest other more : List ℕ) → first_passes (continues_number_of (last_of c front)) rest ≡ false → Chained other → other ++ more ≡ c ∷ (front ++ rest) → length other ≤ length (c ∷ front)
longest_number c front rest other more stops chained e =
    let parts = chained.parts in
    let whole : chained.first ∷ (chained.others ++ more) ≡ c ∷ (front ++ rest) = ap (λ (x : List ℕ). x ++ more) (sym parts) ∙ e in
    let heads : chained.first ≡ c = cc in
    let tails : chained.others ++ more ≡ front ++ rest = cc in
    omega (arith, ap length parts, within_number c chained.others more front rest (subst (λ (y : ℕ). Chain y chained.others) heads chained.chain) stops tails)

-- a number is as long as its characters go on
number_longest : (c : ℕ) (front rest : List ℕ) → IsNumber (c ∷ front) → first_passes (continues_number_of (last_of c front)) rest ≡ false → IsLongest IsNumber (c ∷ front) rest
number_longest c front rest is stops = record {
  fits = is;
  longest = λ other more other_is e. longest_number c front rest other more stops (chained_of other other_is) e;
}

from_digit : (c : ℕ) → is_ascii_digit c ≡ true → Grown (c ∷ []) c
from_digit c d = record { number = first_digit c d; before = λ is. absurd (digit_no_exponent c d is) }

-- what follows a number's first character where that is a digit, and where it is a dot before a digit
pub digit_number : (c : ℕ) (cs rest : List ℕ) → is_ascii_digit c ≡ true → number_rest c cs ≡ rest → (front : List ℕ) × (cs ≡ front ++ rest) × IsLongest IsNumber (c ∷ front) rest
digit_number c cs rest d e =
    let run : NumberRun c cs rest = subst (NumberRun c cs) e (number_run_of c cs) in
    (run.front, run.parts, number_longest c run.front rest (number_grows (c ∷ []) c run.front (from_digit c d) run.chain) run.stops)

point_run : (c : ℕ) (cs rest : List ℕ) → is_ascii_digit c ≡ true → NumberRun c cs rest → (front : List ℕ) × (c ∷ cs ≡ front ++ rest) × IsLongest IsNumber (dot ∷ front) rest
point_run c cs rest d run =
    let start : Grown (dot ∷ c ∷ []) c = record { number = first_point c d; before = λ is. absurd (digit_no_exponent c d is) } in
    (c ∷ run.front, ap (λ (x : List ℕ). c ∷ x) run.parts, number_longest dot (c ∷ run.front) rest (number_grows (dot ∷ c ∷ []) c run.front start run.chain) run.stops)

pub point_number : (c : ℕ) (cs rest : List ℕ) → is_ascii_digit c ≡ true → number_rest dot (c ∷ cs) ≡ rest → (front : List ℕ) × (c ∷ cs ≡ front ++ rest) × IsLongest IsNumber (dot ∷ front) rest
point_number c cs rest d e =
    let goes : continues_number_of dot c ≡ true = letter_goes_on dot c (digit_continues c d) in
    let step : number_rest c cs ≡ rest = sym (ap (λ b. cond b (number_rest c cs) (c ∷ cs)) goes) ∙ e in
    point_run c cs rest d (subst (NumberRun c cs) step (number_run_of c cs))
