-- Zero blocks.
use Rattle.std.specs.Prelude.{ℕ}
use Rattle.gt_types.specs.declared.program.Program.{Program}
use Rattle.gt_types.specs.declared.types.Ty.{Ty}
use Rattle.gt_tree.specs.Trees.{Tree, Trees}
use Rattle.gt_tree.specs.Blocks.{Kind, Blocks}
use Rattle.gt_tree.specs.Fits.{IsZeroOf}
use Rattle.gt_graph.specs.Objects.{Graph}
use Rattle.gt_graph.specs.Changes.{IsZeroBlock}

-- there is a zero value of a block of so many elements, with room for so many at the end of each
abbrev pub HasZero : Program → Graph → Kind → ℕ → ℕ → Type 0
HasZero program g kind count capacity = (value : Tree) × IsZeroBlock program g kind count capacity value

-- No promise: there is a zero value of one element.
abbrev pub HasZeroElement : Program → Blocks → Trees → ℕ → Ty → Type 0
HasZeroElement program blocks statics capacity type = (value : Tree) × IsZeroOf program blocks statics capacity type value
