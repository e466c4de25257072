-- When a leaf may be written in place.
use Rattle.std.specs.Prelude.{◌≡◌, ℕ, List, IsTrue}
use Rattle.gt_types.specs.declared.types.Ty.{Ty}
use Rattle.gt_types.specs.declared.program.Program.{Program}
use Rattle.gt_tree.specs.Trees.{Tree, Rec, Trees, is_word, with_part}
use Rattle.gt_tree.specs.Blocks.{Blocks}
use Rattle.gt_tree.specs.Scopes.{outside}
use Rattle.gt_tree.specs.Fits.{Fits, StaticsFit}
use Rattle.gt_tree.specs.Reshapes.{LeadsToLeaf, Assigns, AssignsStatics}

-- where the value with the leaf replaced fits, it is what the write makes
abbrev pub IsInPlace : Program → Type 0
IsInPlace program = (blocks : Blocks) (statics : Trees) (capacity : ℕ) (type : Ty) (old : Tree) (path : List ℕ) (leaf : Tree) → LeadsToLeaf old path → IsTrue (is_word leaf)
    → Fits program blocks capacity (outside statics) type (with_part old path leaf) → Assigns program blocks statics capacity type old path leaf (with_part old path leaf)

-- so it is for the static record
abbrev pub AreInPlace : Program → Type 0
AreInPlace program = (blocks : Blocks) (old new : Trees) (path : List ℕ) (leaf : Tree) → LeadsToLeaf (Rec old) path → IsTrue (is_word leaf) → with_part (Rec old) path leaf ≡ Rec new → StaticsFit program blocks new
    → AssignsStatics program blocks old path leaf new
