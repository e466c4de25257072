-- What a write gives.
use Rattle.std.specs.Prelude.{◌≡◌, ℕ, List}
use Rattle.gt_types.specs.declared.types.Ty.{Ty}
use Rattle.gt_types.specs.declared.program.Program.{Program}
use Rattle.gt_tree.specs.Trees.{Tree, Rec, Trees}
use Rattle.gt_tree.specs.Blocks.{Blocks}
use Rattle.gt_tree.specs.Scopes.{outside}
use Rattle.gt_tree.specs.Fits.{Fits, StaticsFit}
use Rattle.gt_tree.specs.Reshapes.{Assigns, AssignsStatics}

-- beside whatever blocks and roots this value fits, it is what the write of this leaf makes
abbrev pub IsMadeWhereFit : Program → ℕ → Ty → Tree → List ℕ → Tree → Tree → Type 0
IsMadeWhereFit program capacity type old path leaf new = (blocks : Blocks) (statics : Trees) → Fits program blocks capacity (outside statics) type new
    → Assigns program blocks statics capacity type old path leaf new

-- beside blocks and roots where this value does not fit, the write of this leaf makes no value
abbrev pub NoneElseIsMade : Program → ℕ → Ty → Tree → List ℕ → Tree → Tree → Type 0
NoneElseIsMade program capacity type old path leaf new = (blocks : Blocks) (statics : Trees) → ¬ Fits program blocks capacity (outside statics) type new → (other : Tree)
    → ¬ Assigns program blocks statics capacity type old path leaf other

-- beside no blocks and roots does the write of this leaf make a value
abbrev pub NoneIsMade : Program → ℕ → Ty → Tree → List ℕ → Tree → Type 0
NoneIsMade program capacity type old path leaf = (blocks : Blocks) (statics : Trees) (new : Tree) → ¬ Assigns program blocks statics capacity type old path leaf new

-- a value fits a type at a capacity, beside these blocks
abbrev pub FitsBeside : Program → Blocks → ℕ → Ty → Tree → Type 0
FitsBeside program blocks capacity type value = (statics : Trees) × Fits program blocks capacity (outside statics) type value

-- the value that an element of a block becomes where this leaf is written
abbrev pub IsAssigned : Program → Blocks → ℕ → Ty → Tree → List ℕ → Tree → Tree → Type 0
IsAssigned program blocks capacity type old path leaf new = (statics : Trees) → Fits program blocks capacity (outside statics) type old
    → Assigns program blocks statics capacity type old path leaf new

-- this leaf cannot be written there: no value fits
abbrev pub IsMisfit : Program → Blocks → ℕ → Ty → Tree → List ℕ → Tree → Type 0
IsMisfit program blocks capacity type old path leaf = (statics : Trees) (new : Tree) → ¬ Assigns program blocks statics capacity type old path leaf new

-- ---- the static record

-- the static record that this one becomes where this leaf is written
pub record IsRecordAssigned (program : Program) (blocks : Blocks) (old : Tree) (path : List ℕ) (leaf new : Tree) : Type 0 where
  pub olds : Trees
  pub news : Trees
  pub old_is : old ≡ Rec olds
  pub new_is : new ≡ Rec news
  pub assigns : AssignsStatics program blocks olds path leaf news

-- this leaf cannot be written in the static record: no record fits
abbrev pub IsRecordMisfit : Program → Blocks → Tree → List ℕ → Tree → Type 0
IsRecordMisfit program blocks old path leaf = (olds news : Trees) → old ≡ Rec olds → ¬ AssignsStatics program blocks olds path leaf news

-- a value is a record
abbrev pub IsRecord : Tree → Type 0
IsRecord tree = (parts : Trees) × (tree ≡ Rec parts)

-- a value is a record that fits the roots
abbrev pub RecordFits : Program → Blocks → Tree → Type 0
RecordFits program blocks (Rec trees) = StaticsFit program blocks trees
RecordFits program blocks tree = ⊥

-- beside whatever blocks this record fits, it is what the write of this leaf makes
abbrev pub IsRecordWhereFit : Program → Tree → List ℕ → Tree → Tree → Type 0
IsRecordWhereFit program old path leaf new = (blocks : Blocks) → RecordFits program blocks new → IsRecordAssigned program blocks old path leaf new

-- beside blocks where this record does not fit, the write of this leaf makes no record
abbrev pub NoneElseIsRecord : Program → Tree → List ℕ → Tree → Tree → Type 0
NoneElseIsRecord program old path leaf new = (blocks : Blocks) → ¬ RecordFits program blocks new → IsRecordMisfit program blocks old path leaf

-- beside no blocks does the write of this leaf make a record
abbrev pub NoneIsRecord : Program → Tree → List ℕ → Tree → Type 0
NoneIsRecord program old path leaf = (blocks : Blocks) → IsRecordMisfit program blocks old path leaf
