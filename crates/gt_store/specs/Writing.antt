-- What a write of bits does to the bytes of a space. Places are counted in bits from its lowest address.
use Rattle.std.specs.Prelude.{◌≡◌, ◌≤◌, ◌<◌, ◌⊎◌, ℕ, ◌+◌, ◌-◌, ◌*◌, slice_index}
use Rattle.gt_space.specs.Range.{Range, KeepsAddresses}
use Rattle.gt_tree.specs.Leaves.{bit_of}
use Rattle.gt_tree.specs.FixedLaws.{bit_in}

-- each byte is below 256, as in every space
abbrev pub AreSmall : Range → Type 0
AreSmall range = (k : ℕ) → slice_index range.bytes k < 256

-- So many bits from a place on are those of a number, from its lowest on, and all others are as before; so is each byte that has none
-- of these bits. The space begins where it did, and is as long.
pub record Writes (at width bits : ℕ) (old new : Range) : Type 0 where
  pub addresses : KeepsAddresses old new
  pub small : AreSmall old → AreSmall new
  pub inside : (j : ℕ) → at ≤ j → j < at + width → bit_in new.bytes j ≡ bit_of bits (j - at)
  pub outside : (j : ℕ) → (j < at) ⊎ (at + width ≤ j) → bit_in new.bytes j ≡ bit_in old.bytes j
  pub apart : (k : ℕ) → (8 * k + 8 ≤ at) ⊎ (at + width ≤ 8 * k) → slice_index new.bytes k ≡ slice_index old.bytes k
