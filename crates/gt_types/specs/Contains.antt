-- Which structures a structure contains by value.
use Rattle.std.specs.Prelude.{◌≡◌, ℕ, suc, Option, Some, None, slice_get, Contains}
use Rattle.gt_types.specs.declared.types.TypeId.{TypeId}
use Rattle.gt_types.specs.declared.types.Ty.{Ty}
use Rattle.gt_types.specs.declared.types.Ty.TheVariants as ty
use Rattle.gt_types.specs.declared.program.Field.{Field}
use Rattle.gt_types.specs.declared.program.Structure.{Structure}
use Rattle.gt_types.specs.declared.program.Program.{Program}
use Rattle.gt_types.specs.Shapes.{innermost}

-- the program has the structure of this number
abbrev pub HasStructure : Program → TypeId → Structure → Type 0
HasStructure program node s = slice_get program.structures node.0 ≡ Some s

abbrev pub itself : Ty → Option TypeId
itself (ty.Node node desc) = Some node
itself type = None

-- the structure that a type holds by value: itself, or as the elements of an array
abbrev pub held_by : Ty → Option TypeId
held_by type = itself (innermost type)

-- a structure has a field that holds another by value
abbrev pub ContainsStructure : Program → TypeId → TypeId → Type 0
ContainsStructure program outer inner =
    (s : Structure) × (f : Field) × HasStructure program outer s × Contains s.fields f × (held_by f.ty ≡ Some inner)

-- structures one inside another, the first and the last of them, and how often one contains the next
pub data Nests (program : Program) : ℕ → TypeId → TypeId → Type 0 where
  once : {outer inner : TypeId} → ContainsStructure program outer inner → Nests program 1 outer inner
  deeper : {n : ℕ} {outer next inner : TypeId} → ContainsStructure program outer next → Nests program n next inner → Nests program (suc n) outer inner

-- a structure contains another at any depth
abbrev pub ContainsAtDepth : Program → TypeId → TypeId → Type 0
ContainsAtDepth program outer inner = (n : ℕ) × Nests program n outer inner
