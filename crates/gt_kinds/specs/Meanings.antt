-- No promise: what a name alone means, and which type means strings.
use Rattle.std.specs.Prelude.{◌≡◌, ℕ, true, cond, codes, List, Option, Some, None}
use Rattle.gt_types.specs.declared.types.TypeId.{TypeId}
use Rattle.gt_types.specs.declared.program.Typedef.{Typedef}
use Rattle.gt_types.specs.declared.program.Program.{Program}
use Rattle.gt_script.specs.declared.command.TypeName.{TypeName}
use Rattle.gt_next.specs.Kinds.{IsWordOf, MeansNode}
use Rattle.gt_kinds.specs.declared.meaning.Meaning.{Meaning}
use Rattle.gt_kinds.specs.declared.meaning.Meaning.TheVariants.{Node, Pointer}

-- a name of a typedef means a pointer to this structure
abbrev pub MeansPointer : Program → List ℕ → TypeId → Type 0
MeansPointer program name node = (w : Typedef) × IsWordOf program name w × (w.pointer ≡ true) × (w.id ≡ node)

-- what a typedef means
abbrev pub meaning_of : Typedef → Meaning
meaning_of w = cond w.pointer (Pointer w.id) (Node w.id)

-- a name means a structure, or a pointer to one, or nothing, and nothing else
abbrev pub Means : Program → List ℕ → Option Meaning → Type 0
Means program name None = ((node : TypeId) → ¬ MeansNode program name node) × ((node : TypeId) → ¬ MeansPointer program name node)
Means program name (Some (Node node)) = MeansNode program name node × ((other : TypeId) → MeansNode program name other → other ≡ node) × ((other : TypeId) → ¬ MeansPointer program name other)
Means program name (Some (Pointer node)) = MeansPointer program name node × ((other : TypeId) → MeansPointer program name other → other ≡ node) × ((other : TypeId) → ¬ MeansNode program name other)

-- a type means strings
abbrev pub IsOfStrings : TypeName → Type 0
IsOfStrings type = (type.star ≡ true) × (type.name ≡ codes "char")
