-- For some facts by number, flags that say which of them hold.
use Rattle.std.proofs.Common.{◌≡◌, ℕ, zero, suc, ◌<◌, Bool, true, false, List, [], ◌∷◌, length, Some, refl, ap, inl, inr, arith}
use Rattle.std.specs.Prelude.{◌⊎◌, ◌↔◌, slice_get}
use Rattle.gt_exists.proofs.NotNot.{NotNot, holds, and_then, either}

-- a flag is set where a fact holds
abbrev Tells : Bool → Type 0 → Type 0
Tells flag P = (Some flag ≡ Some true) ↔ P

told : {P : Type 0} → P ⊎ (P → ⊥) → (flag : Bool) × Tells flag P
told (inl p) = (true, (λ h. p, λ h. refl))
told (inr never) = (false, (λ h. absurd (unset h), λ p. absurd (never p)))
  where
    unset : Some false ≡ Some true → ⊥
    unset h = cc h

-- so many flags, each set where its fact holds
pub record AreFlags (P : ℕ → Type 0) (count : ℕ) (flags : List Bool) : Type 0 where
  pub counted : length flags ≡ count
  pub each : (i : ℕ) → i < count → (slice_get flags i ≡ Some true) ↔ P i

flag_at : (count : ℕ) (P : ℕ → Type 0) (flag : Bool) (flags : List Bool) → Tells flag (P zero) → AreFlags (λ i. P (suc i)) count flags
    → (i : ℕ) → i < suc count → (slice_get (flag ∷ flags) i ≡ Some true) ↔ P i
flag_at count P flag flags tells are zero l = tells
flag_at count P flag flags tells are (suc i) l = are.each i (omega (arith, l))

pub flags_of : (count : ℕ) (P : ℕ → Type 0) → NotNot ((flags : List Bool) × AreFlags P count flags)
flags_of zero P = holds ([], record { counted = refl; each = λ i l. absurd (omega (arith, l)) })
flags_of (suc count) P =
    and_then either
    (λ first.
    and_then (flags_of count (λ i. P (suc i)))
    (λ rest.
    let flag = told first in
    holds (flag.0 ∷ rest.0, record { counted = ap suc rest.1.counted; each = flag_at count P flag.0 rest.0 flag.1 rest.1 })))
