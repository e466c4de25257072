-- Sums over the first numbers.
use Rattle.std.proofs.Common.{◌≡◌, ℕ, zero, suc, ◌+◌, ◌≤◌, map, sum_by, refl, sym, ap, ◌∙◌, inl, inr, arith}
use Rattle.std.proofs.lemmas.List.FromFn.{sum_by-map-range_with_len_more}
use Rattle.std.proofs.lemmas.Bool.{cases_eq}
use Rattle.std.specs.List.{range_with_len}

-- the sum over the numbers below n
abbrev pub total : (ℕ → ℕ) → ℕ → ℕ
total g n = sum_by g (map (λ i. i) (range_with_len 0 n))

pub total_more : (g : ℕ → ℕ) (n : ℕ) → total g (suc n) ≡ total g n + g n
total_more g n =
    let next : suc n ≡ n + 1 = omega arith in
    ap (total g) next ∙ sum_by-map-range_with_len_more g (λ i. i) 0 n n (omega arith)

pub total-map : {X : Type 0} (g : X → ℕ) (f : ℕ → X) (n : ℕ) → sum_by g (map f (range_with_len 0 n)) ≡ total (λ i. g (f i)) n
total-map g f zero = refl
total-map g f (suc n) =
    let next : suc n ≡ n + 1 = omega arith in
    ap (λ m. sum_by g (map f (range_with_len 0 m))) next ∙ sum_by-map-range_with_len_more g f 0 n n (omega arith)
    ∙ ap (λ t. t + g (f n)) (total-map g f n) ∙ sym (total_more (λ i. g (f i)) n)

pub total_add : (a b c : ℕ → ℕ) (n : ℕ) → ((i : ℕ) → a i + b i ≡ c i) → total a n + total b n ≡ total c n
total_add a b c zero h = refl
total_add a b c (suc n) h =
    omega (arith, total_more a n, total_more b n, total_more c n, total_add a b c n h, h n)

pub total_same : (a b : ℕ → ℕ) (n : ℕ) → ((i : ℕ) → a i ≡ b i) → total a n ≡ total b n
total_same a b zero h = refl
total_same a b (suc n) h = omega (arith, total_more a n, total_more b n, total_same a b n h, h n)

pub total_past : (a : ℕ → ℕ) (n m : ℕ) → ((i : ℕ) → n ≤ i → a i ≡ 0) → total a (n + m) ≡ total a n
total_past a n zero h = let none : n + 0 ≡ n = omega arith in ap (total a) none
total_past a n (suc m) h =
    let next : n + suc m ≡ suc (n + m) = omega arith in
    let more = ap (total a) next in
    omega (arith, more, total_more a (n + m), total_past a n m h, h (n + m) (omega arith))

pub total_ones : (n : ℕ) → total (λ _. 1) n ≡ n
total_ones zero = refl
total_ones (suc n) = omega (arith, total_more (λ _. 1) n, total_ones n)

-- a sum with a term that is not zero is not zero
pub total_some : (a : ℕ → ℕ) (n k : ℕ) → suc k ≤ n → a k ≤ total a n
total_some a zero k low = omega (arith, low)
total_some a (suc n) k low = elim (cases_eq k n) [
  | inl last ↦ let here = ap a last in omega (arith, total_more a n, here)
  | inr not_last ↦ omega (arith, total_more a n, total_some a n k (omega (arith, low, not_last)))
]

-- a sum of zeros is zero
pub total_none : (a : ℕ → ℕ) (n : ℕ) → ((i : ℕ) → suc i ≤ n → a i ≡ 0) → total a n ≡ 0
total_none a zero h = refl
total_none a (suc n) h =
    omega (arith, total_more a n, total_none a n (λ i low. h i (omega (arith, low))), h n (omega arith))
