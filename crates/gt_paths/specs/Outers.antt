-- Which structures may be outermost around a structure.
use Rattle.std.specs.Prelude.{◌≡◌, ◌⊎◌, ◌↔◌, ℕ, IfSome, length, slice_get}
use Rattle.gt_types.specs.declared.program.Program.{Program}
use Rattle.gt_types.specs.Contains.{ContainsAtDepth}
use Rattle.gt_sets.specs.Sets.{IsIn}
use Rattle.gt_paths.specs.declared.outers.Outers.{Outers}
use Rattle.gt_paths.specs.Numbers.{numbered}

-- a structure may be outermost around another: it is this one itself, or contains it at some depth
abbrev pub IsOuter : Program → ℕ → ℕ → Type 0
IsOuter program node outer = (numbered outer ≡ numbered node) ⊎ ContainsAtDepth program (numbered outer) (numbered node)

-- for each structure of a program there is the set of those that may be outermost around it
pub record AreOutersOf (program : Program) (outers : Outers) : Type 0 where
  pub each : length outers.sets ≡ length program.structures
  pub are : (node : ℕ) → IfSome (slice_get outers.sets node) (λ set. (i : ℕ) → IsIn set.value i ↔ IsOuter program node i)
