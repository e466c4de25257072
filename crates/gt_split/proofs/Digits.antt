-- Digits from left to right.
use Rattle.std.proofs.Common.{◌≡◌, ℕ, ◌+◌, ◌*◌, ◌≤◌, ◌<◌, List, [], ◌∷◌, length, get_or, drop, refl, arith, add-one, drop-cons}
use Rattle.std.proofs.Math.Nat.{mul-le-mul_left}
use Rattle.std.specs.Prelude.{fold}
use Rattle.std.specs.Char.{digit_value}

-- one digit more
abbrev pub step : ℕ → ℕ → ℕ → ℕ
step base value c = value * base + digit_value c

one_more : (base a d n : ℕ) → 1 ≤ base → a * base + d ≤ n → a ≤ n
one_more base a d n h le = omega (arith, mul-le-mul_left a h)

-- the digits that follow make no number smaller
pub fold-grows : (base : ℕ) → 1 ≤ base → (a : ℕ) (cs : List ℕ) → a ≤ fold (step base) a cs
fold-grows base h a [] = omega arith
fold-grows base h a (c ∷ cs) =
    one_more base a (digit_value c) (fold (step base) (a * base + digit_value c) cs) h (fold-grows base h (a * base + digit_value c) cs)

-- the digit at a place, and those after it
pub fold-drop : (base a : ℕ) (cs : List ℕ) (i : ℕ) → i < length cs → fold (step base) a (drop i cs) ≡ fold (step base) (a * base + digit_value (get_or cs i 0)) (drop (i + 1) cs)
fold-drop base a cs i h = rw (drop-cons cs i 0, add-one) refl

-- the number is not below what the digits up to a place make
pub exceeds : (base a : ℕ) (cs : List ℕ) (i n : ℕ) → 1 ≤ base → i < length cs → fold (step base) a (drop i cs) ≡ n → a * base + digit_value (get_or cs i 0) ≤ n
exceeds base a cs i n h lt e =
    let all : a * base + digit_value (get_or cs i 0) ≤ fold (step base) (a * base + digit_value (get_or cs i 0)) (drop (i + 1) cs) = fold-grows base h _ (drop (i + 1) cs) in
    omega (arith, fold-drop base a cs i lt)
