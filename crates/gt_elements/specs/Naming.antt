-- The blocks that pointers name, as the bytes of a heap show them.
use Rattle.std.specs.Prelude.{◌≡◌, ℕ, ◌-◌, [], ◌∷◌, ◌++◌, Some, length, take}
use Rattle.gt_tree.specs.Blocks.{Block, Chars}
use Rattle.gt_tree.specs.FixedLaws.{AreAddresses}
use Rattle.gt_value.specs.Bytes.{itself}
use Rattle.gt_objects.specs.declared.objects.Objects.{Objects}
use Rattle.gt_objects.specs.InBytes.{HasPlaces, blocks_in}

-- a block of characters has as many elements as characters, of which the last is a zero
abbrev pub IsEnded : Block → Type 0
IsEnded b = b.kind ≡ Chars → (b.count ≡ length b.chars) × (b.chars ≡ take (length b.chars - 1) b.chars ++ 0 ∷ [])

-- what holds of the blocks of each heap: the directory has a place for each, each has an address, and characters end in a zero
pub record AreNamed (objects : Objects) : Type 0 where
  pub places : HasPlaces objects
  pub addresses : AreAddresses (blocks_in objects) itself
  pub ended : (address : ℕ) (b : Block) → blocks_in objects address ≡ Some b → IsEnded b
