-- Which structures are of a tail type, as it is found once for a program.
use Rattle.std.specs.Prelude.{◌≡◌, ℕ, Bool, List, Option, Some, length, slice_get}
use Rattle.std.specs.Bool.{Decides}
use Rattle.gt_types.specs.declared.expressions.Expr.{Expr}
use Rattle.gt_types.specs.declared.types.TypeId.{TypeId}
use Rattle.gt_types.specs.declared.types.Ty.TheVariants as ty
use Rattle.gt_types.specs.declared.program.Field.{Field}
use Rattle.gt_types.specs.declared.program.Program.{Program}
use Rattle.gt_types.specs.Tails.{IsTailType}
use Rattle.gt_held.specs.declared.tails.TailTypes.{TailTypes}

-- the structure of this number is of a tail type
abbrev pub IsTailAt : Program → ℕ → Type 0
IsTailAt program place = IsTailType program (record { 0 = place })

-- each structure has, at its number, whether it is of a tail type
pub record AreTailTypesOf (program : Program) (types : TailTypes) : Type 0 where
  pub all : length types.tails.items ≡ length program.structures
  pub each : (place : ℕ) (tail : Bool) → slice_get types.tails.items place ≡ Some tail → Decides tail (IsTailAt program place)

-- ---- no promise: what is known while they are found

-- of some structures it is known whether they are of a tail type
pub record AreKnownTails (program : Program) (known : List (Option Bool)) : Type 0 where
  pub all : length known ≡ length program.structures
  pub each : (place : ℕ) (tail : Bool) → slice_get known place ≡ Some (Some tail) → Decides tail (IsTailAt program place)

-- a field is a structure of a tail type
abbrev pub IsTailMember : Program → Field → Type 0
IsTailMember program f = (member : TypeId) × (desc : Option Expr) × (f.ty ≡ ty.Node member desc) × IsTailType program member
