-- Zero is one value, and a write has one result.
use Rattle.std.specs.Prelude.{◌≡◌, ℕ, List}
use Rattle.gt_types.specs.declared.program.Program.{Program}
use Rattle.gt_tree.specs.Trees.{Tree, Trees}
use Rattle.gt_tree.specs.Blocks.{Kind, Blocks, element_type}
use Rattle.gt_tree.specs.Fits.{IsZeroOf, IsZeroRecord}
use Rattle.gt_tree.specs.Reshapes.{Assigns, AssignsStatics}
use Rattle.gt_tree.specs.FixedLaws.{MayHold}

-- two zero values of an element of a block, at one capacity, are one value, whatever blocks there are beside each
abbrev pub ZeroIsOne : Program → Type 0
ZeroIsOne program = (blocks others : Blocks) (statics : Trees) (kind : Kind) (capacity : ℕ) (a b : Tree) → MayHold program kind
    → IsZeroOf program blocks statics capacity (element_type program kind) a → IsZeroOf program others statics capacity (element_type program kind) b → a ≡ b

-- so are two zero values of the static record
abbrev pub ZeroRecordIsOne : Program → Type 0
ZeroRecordIsOne program = (blocks others : Blocks) (a b : Trees) → IsZeroRecord program blocks a → IsZeroRecord program others b → a ≡ b

-- two results of writing one leaf of an element of a block are one value
abbrev pub WriteIsOne : Program → Type 0
WriteIsOne program = (blocks : Blocks) (statics : Trees) (kind : Kind) (capacity : ℕ) (old : Tree) (path : List ℕ) (leaf a b : Tree) → MayHold program kind
    → Assigns program blocks statics capacity (element_type program kind) old path leaf a → Assigns program blocks statics capacity (element_type program kind) old path leaf b → a ≡ b

-- so are two results of writing one leaf of the static record
abbrev pub RecordWriteIsOne : Program → Type 0
RecordWriteIsOne program = (blocks : Blocks) (old : Trees) (path : List ℕ) (leaf : Tree) (a b : Trees) → AssignsStatics program blocks old path leaf a → AssignsStatics program blocks old path leaf b → a ≡ b
