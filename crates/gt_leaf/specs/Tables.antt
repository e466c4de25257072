-- The table of what expressions read.
use Rattle.std.specs.Prelude.{ℕ, List, Contains, ◌↔◌, ◌⊎◌}
use Rattle.gt_types.specs.declared.expressions.Base.TheVariants.{Here, Outer, Outermost}
use Rattle.gt_types.specs.declared.types.TypeId.{TypeId}
use Rattle.gt_types.specs.declared.program.Program.{Program}
use Rattle.gt_starts.specs.Paths.{BeginsIn}
use Rattle.gt_leaf.specs.declared.reads.Reads.{Reads}
use Rattle.gt_leaf.specs.Unread.{HasPath, IsReadRoot}

-- The table of a program: the paths from `%h` and `%1` of its expressions, with the structures at which they begin; so those from `%0`;
-- and the places of the roots that are read.
pub record IsTableOf (program : Program) (table : Reads) : Type 0 where
  pub inside : (begin : TypeId) (names : List (List ℕ)) → BeginsIn table.inside names begin.0 ↔ (HasPath program Here begin names ⊎ HasPath program Outer begin names)
  pub outermost : (begin : TypeId) (names : List (List ℕ)) → BeginsIn table.outermost names begin.0 ↔ HasPath program Outermost begin names
  pub roots : (i : ℕ) → Contains table.roots i ↔ IsReadRoot program i
