-- No promise: what the proofs of naming speak of.
use Rattle.std.specs.Prelude.{◌≡◌, ◌<◌, ◌⊎◌, ℕ, Bool, true, List, Option, Some, None, All, Any, length, take, slice_get}
use Rattle.std.specs.Bool.{Decides}
use Rattle.gt_types.specs.declared.expressions.Base.{Base}
use Rattle.gt_types.specs.declared.expressions.Expr.{Expr}
use Rattle.gt_types.specs.declared.types.TypeId.{TypeId}
use Rattle.gt_types.specs.declared.types.Ty.{Ty}
use Rattle.gt_types.specs.declared.program.Field.{Field}
use Rattle.gt_types.specs.declared.program.Structure.{Structure}
use Rattle.gt_types.specs.declared.program.Program.{Program}
use Rattle.gt_types.specs.Contains.{HasStructure, held_by}
use Rattle.gt_types.specs.Paths.{paths_of}
use Rattle.gt_tables.specs.Building.{flag_at}
use Rattle.gt_tables.specs.Sharing.{ReadsOutermost}

-- a path of an expression begins there
abbrev pub Names : Base → Expr → Type 0
Names base e = Any (λ path. path.0 ≡ base) (paths_of e)

-- there is an expression, and it names it
abbrev pub MayName : Base → Option Expr → Type 0
MayName base (Some e) = Names base e
MayName base None = ⊥

-- the structure that a type holds by value reads the outermost one
abbrev pub HoldsReader : Program → Ty → Type 0
HoldsReader program type = (node : TypeId) × (held_by type ≡ Some node) × ReadsOutermost program node

-- what is known of structures tells whether they read the outermost one
abbrev pub TellReaders : Program → List (Option Bool) → Type 0
TellReaders program known = (node : TypeId) (flag : Bool) → slice_get known node.0 ≡ Some (Some flag) → Decides flag (ReadsOutermost program node)

-- flags tell of the structures before a place whether something holds of them
pub record TellsBefore (program : Program) (flags : List Bool) (before : ℕ) (holds : TypeId → Type 0) : Type 0 where
  pub all : length flags ≡ before
  pub tell : (node : TypeId) (s : Structure) → node.0 < before → HasStructure program node s → Decides (flag_at flags node.0) (holds node)

-- what is found by the fields before a place: that something was found first, or that one of them holds a structure that reads the outermost
pub record IsSoFar (program : Program) (first : Bool) (fields : List Field) (before : ℕ) (flag : Bool) (known : List (Option Bool)) (many : ℕ) : Type 0 where
  pub all : length known ≡ many
  pub told : TellReaders program known
  pub found : Decides flag ((first ≡ true) ⊎ Any (λ f. HoldsReader program f.ty) (take before fields))

-- of so many structures nothing is known
pub record AreUnknown (known : List (Option Bool)) (many : ℕ) : Type 0 where
  pub all : length known ≡ many
  pub none : All (λ flag. flag ≡ None) known

-- flags tell which of the structures before a place read the outermost one, and so does what is known
pub record AreRead (program : Program) (flags : List Bool) (before : ℕ) (known : List (Option Bool)) : Type 0 where
  pub all : length known ≡ length program.structures
  pub told : TellReaders program known
  pub flags_tell : TellsBefore program flags before (ReadsOutermost program)
