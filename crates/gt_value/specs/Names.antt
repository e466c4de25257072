-- What a store of blocks tells of the block at an address.
use Rattle.std.specs.Prelude.{◌≡◌, ◌<◌, ℕ, Option, Some, None, length, slice_get}
use Rattle.gt_tree.specs.Blocks.{Kind, Nodes, Pointers, Strings, Chars, Raw, Block, Blocks, IsWhole}
use Rattle.gt_value.specs.declared.names.BlockKind.{BlockKind}
use Rattle.gt_value.specs.declared.names.BlockKind.TheVariants as told
use Rattle.gt_value.specs.declared.names.BlockOf.{BlockOf}

abbrev pub kind_of : BlockKind → Kind
kind_of (told.Nodes node) = Nodes node
kind_of (told.Pointers node) = Pointers node
kind_of told.Strings = Strings
kind_of told.Chars = Chars
kind_of told.Raw = Raw

-- what is told of an address: the block that starts there, by what it holds and how many elements; or that none does
abbrev pub IsTold : Blocks → ℕ → Option BlockOf → Type 0
IsTold blocks address None = blocks address ≡ None
IsTold blocks address (Some told) = (b : Block) × (blocks address ≡ Some b) × (b.kind ≡ kind_of told.kind) × (b.count ≡ told.count) × IsWhole b

-- a block of characters starts there, and has this one
abbrev pub HasChar : Blocks → ℕ → ℕ → Type 0
HasChar blocks address i = (b : Block) × (blocks address ≡ Some b) × (b.kind ≡ Chars) × (i < length b.chars)

abbrev pub IsChar : Blocks → ℕ → ℕ → ℕ → Type 0
IsChar blocks address i byte = (b : Block) → blocks address ≡ Some b → b.kind ≡ Chars → slice_get b.chars i ≡ Some byte
