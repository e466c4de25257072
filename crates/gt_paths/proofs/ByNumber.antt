-- The structures of a program by their numbers.
use Rattle.std.proofs.Common.{◌≡◌, Some, sym, ◌∙◌}
use Rattle.gt_types.specs.declared.types.TypeId.{TypeId}
use Rattle.gt_types.specs.declared.program.Structure.{Structure}
use Rattle.gt_types.specs.declared.program.Program.{Program}
use Rattle.gt_types.specs.Contains.{HasStructure}

some_is : (s t : Structure) → Some s ≡ Some t → s ≡ t
some_is s t e = cc

-- a number is that of one structure
pub same_structure : (program : Program) (node : TypeId) (s t : Structure) → HasStructure program node s → HasStructure program node t → s ≡ t
same_structure program node s t a b = some_is s t (sym a ∙ b)
