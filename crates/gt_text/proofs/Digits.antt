-- Digits from left to right.
use Rattle.std.proofs.Common.{◌≡◌, ℕ, ◌+◌, ◌*◌, ◌≤◌, ◌<◌, Bool, true, false, cond, List, [], ◌∷◌, length, get_or, take, drop, refl, arith, add-one, drop-cons, ◌∙◌, ap}
use Rattle.std.proofs.Math.Nat.{mul-le-mul_left}
use Rattle.std.proofs.lemmas.List.Sums.{take_while-cons}
use Rattle.std.proofs.lemmas.List.Folds.{length-prefix_len}
use Rattle.std.specs.Prelude.{IsTrue, fold}
use Rattle.std.specs.List.{list_all, take_while}
use Rattle.std.specs.Char.{digit_value, is_digit}
use Rattle.gt_text.specs.Integer.{digits_of}

-- one digit more
abbrev pub step : ℕ → ℕ → ℕ → ℕ
step base value c = value * base + digit_value c

one_more : (base a d n : ℕ) → 1 ≤ base → a * base + d ≤ n → a ≤ n
one_more base a d n h le = omega (arith, mul-le-mul_left a h)

-- the digits that follow make no number smaller
pub fold-grows : (base : ℕ) → 1 ≤ base → (a : ℕ) (cs : List ℕ) → a ≤ fold (step base) a cs
fold-grows base h a [] = omega arith
fold-grows base h a (c ∷ cs) =
    one_more base a (digit_value c) (fold (step base) (a * base + digit_value c) cs) h (fold-grows base h (a * base + digit_value c) cs)

-- the digit at a place, and those after it
pub fold-drop : (base a : ℕ) (cs : List ℕ) (i : ℕ) → i < length cs → fold (step base) a (drop i cs) ≡ fold (step base) (a * base + digit_value (get_or cs i 0)) (drop (i + 1) cs)
fold-drop base a cs i h = rw (drop-cons cs i 0, add-one) refl

-- the number is not below what the digits up to a place make
pub exceeds : (base a : ℕ) (cs : List ℕ) (i n : ℕ) → 1 ≤ base → i < length cs → fold (step base) a (drop i cs) ≡ n → a * base + digit_value (get_or cs i 0) ≤ n
exceeds base a cs i n h lt e =
    let all : a * base + digit_value (get_or cs i 0) ≤ fold (step base) (a * base + digit_value (get_or cs i 0)) (drop (i + 1) cs) = fold-grows base h _ (drop (i + 1) cs) in
    omega (arith, fold-drop base a cs i lt)

pass : (p : ℕ → Bool) (c : ℕ) (b : Bool) (cs : List ℕ) → p c ≡ b → list_all p cs ≡ true → list_all p (cond b (c ∷ cs) []) ≡ true
pass p c true cs here after = rw here after
pass p c false cs here after = refl

-- each of the front that passes a test passes it
list_all-take_while : (p : ℕ → Bool) (cs : List ℕ) → list_all p (take_while p cs) ≡ true
list_all-take_while p [] = refl
list_all-take_while p (c ∷ cs) = rw (take_while-cons p c cs) (pass p c (p c) (take_while p cs) refl (list_all-take_while p cs))

pub all_digits : (base n : ℕ) (text front : List ℕ) → n ≡ length (digits_of base text) → front ≡ take n text → IsTrue (list_all (λ c. is_digit c base) front)
all_digits base n text front count e =
    let same : front ≡ digits_of base text = e ∙ ap (λ k. take k text) (count ∙ length-prefix_len (λ c. is_digit c base) text) in
    rw same (list_all-take_while (λ c. is_digit c base) text)
