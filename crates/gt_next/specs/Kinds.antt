-- What a type of a script means.
use Rattle.std.specs.Prelude.{◌≡◌, ◌≢◌, ℕ, true, false, codes, List, Contains}
use Rattle.gt_types.specs.declared.types.TypeId.{TypeId}
use Rattle.gt_types.specs.declared.program.Structure.{Structure}
use Rattle.gt_types.specs.declared.program.Typedef.{Typedef}
use Rattle.gt_types.specs.declared.program.Program.{Program}
use Rattle.gt_types.specs.Contains.{HasStructure}
use Rattle.gt_types.specs.Paths.{MayStand}
use Rattle.gt_script.specs.declared.command.TypeName.{TypeName}
use Rattle.gt_tree.specs.Blocks.{Kind, Nodes, Pointers, Strings}

-- a name of a typedef that means a structure, or a pointer to one
abbrev pub IsWordOf : Program → List ℕ → Typedef → Type 0
IsWordOf program name w = Contains program.words w × (w.name ≡ name)

-- a name means a structure: as a name of a typedef, where it is one, or else as a tag
pub data MeansNode (program : Program) (name : List ℕ) : TypeId → Type 0 where
  by_word : {w : Typedef} → IsWordOf program name w → w.pointer ≡ false → MeansNode program name w.id
  by_tag : {node : TypeId} {s : Structure} → ((w : Typedef) → ¬ IsWordOf program name w) → HasStructure program node s → s.name ≡ name → MeansNode program name node

-- What elements of a type of a script are: structures; pointers to such, by a star after a name or by a typedef of a pointer; or strings,
-- which `char*` alone means. A structure, also one that is pointed to, is one that may stand alone.
pub data IsKindOf (program : Program) : TypeName → Kind → Type 0 where
  structures : {type : TypeName} {node : TypeId} → type.star ≡ false → MeansNode program type.name node → MayStand program node → IsKindOf program type (Nodes node)
  pointers : {type : TypeName} {node : TypeId} → type.star ≡ true → type.name ≢ codes "char" → MeansNode program type.name node → MayStand program node → IsKindOf program type (Pointers node)
  pointers_by_word : {type : TypeName} {w : Typedef} → type.star ≡ false → IsWordOf program type.name w → w.pointer ≡ true → MayStand program w.id
      → IsKindOf program type (Pointers w.id)
  strings : {type : TypeName} → type.star ≡ true → type.name ≡ codes "char" → IsKindOf program type Strings

-- a type of a script that names structures
abbrev pub NamesNodes : Program → TypeName → TypeId → Type 0
NamesNodes program type node = IsKindOf program type (Nodes node)
