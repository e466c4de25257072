-- Digits from left to right.
use Rattle.std.proofs.Common.{◌≡◌, ℕ, ◌+◌, ◌*◌, ◌-◌, ◌≤◌, ◌<◌, List, [], ◌∷◌, length, get_or, drop, arith, add-one, drop-cons, refl}
use Rattle.std.specs.Prelude.{fold}

-- one digit more
abbrev pub step : ℕ → ℕ → ℕ
step value c = value * 10 + (c - 48)

-- the digits that follow make no number smaller
pub fold-grows : (a : ℕ) (cs : List ℕ) → a ≤ fold step a cs
fold-grows a [] = omega arith
fold-grows a (c ∷ cs) = let more : step a c ≤ fold step (step a c) cs = fold-grows (step a c) cs in omega (arith, more)

-- the digit at a place, and those after it
pub fold-drop : (a : ℕ) (cs : List ℕ) (i : ℕ) → i < length cs → fold step a (drop i cs) ≡ fold step (step a (get_or cs i 0)) (drop (i + 1) cs)
fold-drop a cs i h = rw (drop-cons cs i 0, add-one) refl

-- the number is not below what the digits up to a place make
pub exceeds : (a : ℕ) (cs : List ℕ) (i n : ℕ) → i < length cs → fold step a (drop i cs) ≡ n → step a (get_or cs i 0) ≤ n
exceeds a cs i n lt e =
    let all : step a (get_or cs i 0) ≤ fold step (step a (get_or cs i 0)) (drop (i + 1) cs) = fold-grows _ (drop (i + 1) cs) in
    omega (arith, fold-drop a cs i lt)
