-- The types of the elements of blocks, as they are found by what the blocks hold.
use Rattle.std.specs.Prelude.{◌≡◌, ◌<◌, ℕ, false, List, Some, None, length, slice_get}
use Rattle.gt_types.specs.declared.types.TypeId.{TypeId}
use Rattle.gt_types.specs.declared.types.Width.TheVariants.{W1}
use Rattle.gt_types.specs.declared.types.Scalar.TheVariants as scalar
use Rattle.gt_types.specs.declared.types.Target.TheVariants as target
use Rattle.gt_types.specs.declared.types.PtrKind.TheVariants as kind
use Rattle.gt_types.specs.declared.types.Ty.{Ty}
use Rattle.gt_types.specs.declared.types.Ty.TheVariants as ty
use Rattle.gt_types.specs.declared.program.Structure.{Structure}
use Rattle.gt_types.specs.declared.program.Program.{Program}
use Rattle.gt_held.specs.declared.types.ElementTypes.{ElementTypes}

-- a plain pointer to a structure
abbrev pub pointer_to : TypeId → Ty
pointer_to node = ty.Ptr (Some (target.Node node)) kind.Plain false

-- a byte
abbrev pub byte_type : Ty
byte_type = ty.Num (scalar.Int W1 false)

-- each structure has its type, with its own `desc`, at its number
abbrev pub AreNodesOf : List Structure → List Ty → Type 0
AreNodesOf structures types = (node : TypeId) (s : Structure) → slice_get structures node.0 ≡ Some s → slice_get types node.0 ≡ Some (ty.Node node s.desc)

-- the plain pointer to each of so many structures is at its number
abbrev pub ArePointersOf : ℕ → List Ty → Type 0
ArePointersOf count types = (node : TypeId) → node.0 < count → slice_get types node.0 ≡ Some (pointer_to node)

-- these are the types of the elements of blocks
pub record AreElementTypesOf (program : Program) (types : ElementTypes) : Type 0 where
  pub nodes : AreNodesOf program.structures types.nodes.items
  pub pointers : ArePointersOf (length program.structures) types.pointers.items
  pub strings : types.strings ≡ ty.Str None
  pub bytes : types.bytes ≡ byte_type
