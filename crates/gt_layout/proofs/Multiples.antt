-- Least multiples.
use Rattle.std.proofs.Common.{◌≡◌, ◌≢◌, ◌≤◌, ◌<◌, ℕ, zero, suc, ◌+◌, ◌-◌, ◌*◌, ◌/◌, ◌%◌, sym, ap, ◌∙◌, zero-mul, suc-mul, ◌⊎◌, inl, inr, arith}
use Rattle.std.proofs.lemmas.Bool.{cases_lt}
use Rattle.std.proofs.lemmas.Nat.{div-add-mod', mul-le, mod_below, div-mul-add}

-- the quotient of a number that is a multiple gives it back
pub whole : (n to : ℕ) → n % to ≡ 0 → n / to * to ≡ n
whole n to e = omega (arith, e, div-add-mod' n to)

more : (q m to : ℕ) → m < q → m * to + to ≤ q * to
more q m to less = omega (arith, mul-le (m + 1) to q to (omega arith) (omega arith))

least_by : (q n to other m : ℕ) → 0 < to → n ≤ other → m * to ≡ other → q * to ≤ n + to - 1 → (m < q) ⊎ (q ≤ m) → q * to ≤ other
least_by q n to other m some after is above (inl less) = omega (arith, more q m to less)
least_by q n to other m some after is above (inr least) = omega (arith, mul-le q to m to least (omega arith))

-- multiples that are not below a number are not below its rounding
pub least_multiple : (n to other : ℕ) → 0 < to → n ≤ other → other % to ≡ 0 → (n + to - 1) / to * to ≤ other
least_multiple n to other some after multiple =
    least_by ((n + to - 1) / to) n to other (other / to) some after (whole other to multiple) (omega (arith, div-add-mod' (n + to - 1) to)) (cases_lt _ _)

-- ---- bits in one unit

-- a number that is not a multiple and is below the next one has the same quotient as one from which on it lies
quotient_by : (q u r p : ℕ) → q * u + r ≤ p → p < q * u + u → p / u ≡ q
quotient_by q u r p after before =
    let offset : p ≡ q * u + (p - q * u) = omega arith in
    ap (λ (n : ℕ). n / u) offset ∙ div-mul-add q u (p - q * u) (omega arith)

-- bits from a multiple of the unit on lie in one unit
pub fits_unit : (n u count : ℕ) → 1 ≤ count → count ≤ u → n % u ≡ 0 → n / u ≡ (n + count - 1) / u
fits_unit n u count some few multiple =
    let is = whole n u multiple in
    sym (quotient_by (n / u) u 0 (n + count - 1) (omega (arith, is)) (omega (arith, is)))

one_less : (m u : ℕ) → 0 < m * u → (m - 1) * u + u ≡ m * u
one_less zero u some = omega (arith, zero-mul u)
one_less (suc m) u some =
    let same : suc m - 1 ≡ m = omega arith in
    ap (λ (k : ℕ). k * u + u) same ∙ omega (arith, suc-mul m u)

crosses_at : (n u count p q : ℕ) → n / u ≢ (n + count - 1) / u → n ≤ p → p / u ≡ (p + count - 1) / u → 1 ≤ count → q * u ≤ n → p < q * u + u → ⊥
crosses_at n u count p q cross after fits some above less =
    let here = quotient_by q u 0 n (omega arith) (omega arith) in
    let there = quotient_by q u 0 p (omega arith) (omega arith) in
    let last : p + count - 1 < q * u + u = omega (arith, sym fits ∙ there, div-add-mod' (p + count - 1) u, mod_below (p + count - 1) u (omega arith), ap (λ (m : ℕ). m * u) (sym fits ∙ there)) in
    cross (here ∙ sym (quotient_by q u 0 (n + count - 1) (omega arith) (omega arith)))

-- bits that cross a unit go to the next one
pub next_unit : (n u count p k : ℕ) → n / u ≢ (n + count - 1) / u → n ≤ p → p / u ≡ (p + count - 1) / u → 1 ≤ count → k % u ≡ 0 → k < n + u → n ≤ k → (p < k) ⊎ (k ≤ p) → k ≤ p
next_unit n u count p k cross after fits some multiple near above (inl less) =
    let is = whole k u multiple in
    let before = one_less (k / u) u (omega arith) in
    absurd (crosses_at n u count p (k / u - 1) cross after fits some (omega arith) (omega arith))
next_unit n u count p k cross after fits some multiple near above (inr least) = least
