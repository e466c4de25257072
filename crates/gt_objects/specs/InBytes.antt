-- The blocks of a space by their addresses, as pages, directory and bytes show them.
use Rattle.std.specs.Prelude.{◌≡◌, ℕ, ◌==◌, cond, List, [], Option, Some, None, option_map, length}
use Rattle.gt_space.specs.Range.{Range, bytes_at}
use Rattle.gt_tree.specs.Blocks.{Kind, Chars, Block, Blocks}
use Rattle.gt_tree.specs.Scopes.{◌then◌}
use Rattle.gt_value.specs.Names.{kind_of}
use Rattle.gt_pages.specs.Slots.{owner_of}
use Rattle.gt_directory.specs.Directories.{IsBlock, known_at}
use Rattle.gt_objects.specs.declared.objects.Known.{Known}
use Rattle.gt_objects.specs.declared.objects.Objects.{Objects}

-- what is known of the block that starts at an address
abbrev pub known_in : Objects → ℕ → Option Known
known_in objects address = owner_of objects.pages.slots address then λ owner. cond (owner.0 == address) (known_at objects.directory address owner.1) None

-- the directory has a place for each block
abbrev pub HasPlaces : Objects → Type 0
HasPlaces objects = (address size : ℕ) → owner_of objects.pages.slots address ≡ Some (address, size) → IsBlock (length objects.directory.shelves) address size

-- the characters of a block are its bytes
abbrev pub chars_as : Kind → List ℕ → List ℕ
chars_as Chars bytes = bytes
chars_as kind bytes = []

-- the block at an address of which this is known
abbrev pub block_as : Range → ℕ → Known → Block
block_as range address known = record { kind = kind_of known.kind; count = known.count; chars = chars_as (kind_of known.kind) (bytes_at range address known.count) }

abbrev pub blocks_in : Objects → Blocks
blocks_in objects address = option_map (block_as objects.space address) (known_in objects address)
