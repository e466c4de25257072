-- No promise: what the searches within a word give.
use Rattle.std.specs.Prelude.{◌≡◌, ℕ, ◌+◌, ◌<◌, ◌≤◌, Option, IfSome, IfNone}
use Rattle.std.specs.Int.{bit_at}

-- the lowest bit of a word that is set and not below `from`, or none where none is
pub record IsNextBit (word from : ℕ) (result : Option ℕ) : Type 0 where
  pub set : IfSome result (λ i. bit_at word i ≡ 1)
  pub reached : IfSome result (λ i. from ≤ i)
  pub within : IfSome result (λ i. i < 64)
  pub least : IfSome result (λ i. (j : ℕ) → from ≤ j → j < i → bit_at word j ≡ 0)
  pub none : IfNone result ((j : ℕ) → from ≤ j → bit_at word j ≡ 0)

-- the lowest bit of a word of 64 that is not set and not below `from`, or none where none is
pub record IsNextClearBit (word from : ℕ) (result : Option ℕ) : Type 0 where
  pub clear : IfSome result (λ i. bit_at word i ≡ 0)
  pub reached : IfSome result (λ i. from ≤ i)
  pub within : IfSome result (λ i. i < 64)
  pub least : IfSome result (λ i. (j : ℕ) → from ≤ j → j < i → bit_at word j ≡ 1)
  pub none : IfNone result ((j : ℕ) → from ≤ j → j < 64 → bit_at word j ≡ 1)

-- the highest bit of a word of 64 that is not set, or none where all are
pub record IsLastClearBit (word : ℕ) (result : Option ℕ) : Type 0 where
  pub clear : IfSome result (λ i. bit_at word i ≡ 0)
  pub within : IfSome result (λ i. i < 64)
  pub last : IfSome result (λ i. (j : ℕ) → i < j → j < 64 → bit_at word j ≡ 1)
  pub none : IfNone result ((j : ℕ) → j < 64 → bit_at word j ≡ 1)

-- n bits of a word, from b on, are all set
abbrev pub AreSet : (word n b : ℕ) → Type 0
AreSet word n b = (j : ℕ) → j < n → bit_at word (b + j) ≡ 1

-- the bits of a word from which on n bits are set
pub record AreStarts (word n starts : ℕ) : Type 0 where
  pub each : (b : ℕ) → AreSet word n b → bit_at starts b ≡ 1
  pub only : (b : ℕ) → bit_at starts b ≡ 1 → AreSet word n b

-- the lowest bit of a word from which on n bits are set, or none where there is none
pub record IsFirstOnes (word n : ℕ) (result : Option ℕ) : Type 0 where
  pub ones : IfSome result (AreSet word n)
  pub within : IfSome result (λ b. b < 64)
  pub lowest : IfSome result (λ b. (c : ℕ) → c < b → ¬ (AreSet word n c))
  pub none : IfNone result ((c : ℕ) → ¬ (AreSet word n c))
