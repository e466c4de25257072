-- Sizes that are held within a limit.
use Rattle.std.proofs.Common.{◌≡◌, ◌∙◌, ◌⊎◌, inl, inr, ℕ, zero, suc, ◌*◌, ◌≤◌, ◌<◌, min, sym, ap, arith, mul_assoc, zero-mul, ◌-◌, List, [], ◌∷◌, length, take, drop}
use Rattle.std.proofs.Math.ListN.{get_or}
use Rattle.std.proofs.lemmas.List.{take_rest}
use Rattle.gt_drafts.specs.declared.types.Amount.{Amount}
use Rattle.gt_markers.specs.Typing.{amount, elements}
use Rattle.std.proofs.lemmas.Bool.{cases_lt}
use Rattle.std.proofs.lemmas.Nat.{mul-le}

times_by : (n a limit : ℕ) → (a < limit) ⊎ (limit ≤ a) → min (n * min a limit) limit ≡ min (n * a) limit
times_by n a limit (inl small) = let same : min a limit ≡ a = omega arith in ap (λ (m : ℕ). min (n * m) limit) same
times_by zero a limit (inr large) = ap (λ (m : ℕ). min m limit) (zero-mul (min a limit) ∙ sym (zero-mul a))
times_by (suc n) a limit (inr large) =
    omega (arith, large, mul-le 1 a (suc n) a (omega arith) (omega arith), mul-le 1 (min a limit) (suc n) (min a limit) (omega arith) (omega arith))

-- so many of what is held within a limit are as many of the whole, within the limit
pub times_held : (n a limit : ℕ) → min (n * min a limit) limit ≡ min (n * a) limit
times_held n a limit = times_by n a limit (cases_lt a limit)

-- the same of so many times so many
pub times_times_held : (n m a limit : ℕ) → min (n * min (m * a) limit) limit ≡ min (n * m * a) limit
times_times_held n m a limit = times_held n (m * a) limit ∙ ap (λ (k : ℕ). min k limit) (sym (mul_assoc n m a))

-- ---- how many elements there are

-- an array has as many times the elements of one of its parts as its outermost dimension says
elements_cut : (bounds : List Amount) (other : Amount) → 1 ≤ length bounds
    → elements bounds ≡ amount (get_or bounds 0 other) * elements (take (length bounds - 1) (drop 1 bounds))
elements_cut [] other some = absurd (omega arith)
elements_cut (bound ∷ bounds) other some = ap (λ (rest : List Amount). amount bound * elements rest) (sym (take_rest (bound ∷ bounds) 1))

pub size_cut : (bounds : List Amount) (other : Amount) (size limit number inner : ℕ) → 1 ≤ length bounds → number ≡ amount (get_or bounds 0 other)
    → inner ≡ min (elements (take (length bounds - 1) (drop 1 bounds)) * size) limit → min (number * inner) limit ≡ min (elements bounds * size) limit
size_cut bounds other size limit number inner some number_is inner_is =
    ap (λ (n : ℕ). min (n * inner) limit) number_is
    ∙ ap (λ (n : ℕ). min (amount (get_or bounds 0 other) * n) limit) inner_is
    ∙ times_times_held (amount (get_or bounds 0 other)) (elements (take (length bounds - 1) (drop 1 bounds))) size limit
    ∙ ap (λ (n : ℕ). min (n * size) limit) (sym (elements_cut bounds other some))
