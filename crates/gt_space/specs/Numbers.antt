-- Unsigned numbers in the bytes of a range, the low byte first.
use Rattle.std.specs.Prelude.{ℕ, ◌-◌, ◌∷◌, [], slice_index}
use Rattle.std.specs.Int.{w16, w32, w64, from_le_bytes, to_le_bytes}
use Rattle.gt_space.specs.Range.{Range, bytes_at, with_bytes}

-- the byte at the address
abbrev pub u8_at : Range → ℕ → ℕ
u8_at r addr = slice_index r.bytes (addr - r.start)

-- the number in the two bytes at the address
unfoldable pub u16_at : Range → ℕ → ℕ
u16_at r addr = from_le_bytes w16 (bytes_at r addr 2)

-- the number in the four bytes at the address
unfoldable pub u32_at : Range → ℕ → ℕ
u32_at r addr = from_le_bytes w32 (bytes_at r addr 4)

-- the number in the eight bytes at the address
unfoldable pub u64_at : Range → ℕ → ℕ
u64_at r addr = from_le_bytes w64 (bytes_at r addr 8)

-- the range with this byte at the address
abbrev pub with_u8 : Range → ℕ → ℕ → Range
with_u8 r addr n = with_bytes r addr (n ∷ [])

-- the range with this number in the two bytes at the address
abbrev pub with_u16 : Range → ℕ → ℕ → Range
with_u16 r addr n = with_bytes r addr (to_le_bytes w16 n)

-- the range with this number in the four bytes at the address
abbrev pub with_u32 : Range → ℕ → ℕ → Range
with_u32 r addr n = with_bytes r addr (to_le_bytes w32 n)

-- the range with this number in the eight bytes at the address
abbrev pub with_u64 : Range → ℕ → ℕ → Range
with_u64 r addr n = with_bytes r addr (to_le_bytes w64 n)
