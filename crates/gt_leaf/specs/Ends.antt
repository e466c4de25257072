-- No promise: in which field a path ends.
use Rattle.std.specs.Prelude.{ℕ, ◌∷◌, List, [], Option, Some, None}
use Rattle.gt_types.specs.declared.types.Ty.{Ty}
use Rattle.gt_types.specs.declared.types.Ty.TheVariants as ty
use Rattle.gt_types.specs.declared.program.Program.{Program}
use Rattle.gt_starts.specs.Ways.{name_at}
use Rattle.gt_leaf.specs.Unread.{part_at}

-- the name of the field at a place of a value
abbrev pub name_in : Program → Ty → ℕ → Option (List ℕ)
name_in program (ty.Node node desc) i = name_at program node i
name_in program type i = None

-- the name of the field in which a path from a value ends
abbrev pub last_name : Program → Option Ty → List ℕ → Option (List ℕ)
last_name program (Some type) (i ∷ []) = name_in program type i
last_name program (Some type) (i ∷ path) = last_name program (part_at program type i) path
last_name program type path = None
