-- What cannot fail to hold: crates have no excluded middle.
use Rattle.std.proofs.Common.{inl, inr}
use Rattle.std.specs.Prelude.{◌⊎◌}

abbrev pub NotNot : Type 0 → Type 0
NotNot A = (A → ⊥) → ⊥

pub holds : {A : Type 0} → A → NotNot A
holds a = λ never. never a

pub and_then : {A B : Type 0} → NotNot A → (A → NotNot B) → NotNot B
and_then a f = λ never. a (λ x. f x never)

-- it holds or it does not
pub either : {A : Type 0} → NotNot (A ⊎ (A → ⊥))
either = λ never. never (inr (λ a. never (inl a)))
