-- Parts of blocks. Nothing here is promised: it only helps the calls say what they do.
use Rattle.std.specs.Prelude.{◌≡◌, ◌<◌, ℕ, pos, List}
use Rattle.gt_types.specs.declared.types.TypeId.{TypeId}
use Rattle.gt_types.specs.declared.types.Ty.{Ty}
use Rattle.gt_types.specs.declared.program.Program.{Program}
use Rattle.gt_tree.specs.Trees.{Tree, Num, Trees}
use Rattle.gt_tree.specs.Blocks.{Nodes, Blocks, element_type}
use Rattle.gt_show.specs.BlockTexts.{ShowsBlock}

-- the value is this byte
abbrev pub IsByte : Tree → ℕ → Type 0
IsByte tree byte = tree ≡ Num (pos byte)

-- the value is a byte
abbrev pub IsSomeByte : Tree → Type 0
IsSomeByte tree = (byte : ℕ) × (byte < 256) × IsByte tree byte

-- the text of a block of structures, by the type of its elements
abbrev pub ShowsNodes : Program → Blocks → Ty → Trees → List ℕ → Type 0
ShowsNodes program blocks type trees text = (node : TypeId) → type ≡ element_type program (Nodes node) → ShowsBlock program blocks (Nodes node) trees text
