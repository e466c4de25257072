-- No promise: structures that contain others at any depth, by their numbers.
use Rattle.std.specs.Prelude.{◌≡◌, ◌⊎◌, ℕ, List, Contains}
use Rattle.gt_types.specs.declared.program.Program.{Program}
use Rattle.gt_types.specs.Contains.{ContainsAtDepth}
use Rattle.gt_paths.specs.Numbers.{numbered}

-- a structure is one of these, or contains one of them at any depth
abbrev pub IsAbove : Program → List ℕ → ℕ → Type 0
IsAbove program from id = (x : ℕ) × Contains from x × ((id ≡ x) ⊎ ContainsAtDepth program (numbered id) (numbered x))

-- all structures that are these, or contain one of them at any depth
pub record AreAbove (program : Program) (from found : List ℕ) : Type 0 where
  pub all : (id : ℕ) → IsAbove program from id → Contains found id
  pub only : (id : ℕ) → Contains found id → IsAbove program from id
