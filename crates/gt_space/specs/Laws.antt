-- What follows from the words of the contracts: writes and reads together, and the pages of a static record.
use Rattle.std.specs.Prelude.{◌≡◌, ℕ, ◌+◌, ◌*◌, ◌^◌, ◌<◌, ◌≤◌, ◌⊎◌, List, length}
use Rattle.gt_space.specs.declared.TheConstants.{PAGE_BYTES}
use Rattle.gt_space.specs.Range.{Range, IsInside, KeepsAddresses, bytes_at, with_bytes, pages_for}
use Rattle.gt_space.specs.Numbers.{u8_at, u16_at, u32_at, u64_at, with_u8, with_u16, with_u32, with_u64}

-- the `m` bytes at `a` and the `n` bytes at `b` have none in common
abbrev pub IsApart : (a m b n : ℕ) → Type 0
IsApart a m b n = (a + m ≤ b) ⊎ (b + n ≤ a)

-- a write leaves the same addresses inside
abbrev pub AddressesStay : Type 0
AddressesStay =
    (r : Range) (addr : ℕ) (new : List ℕ) → IsInside r addr (length new)
    → KeepsAddresses r (with_bytes r addr new)

-- the bytes read where bytes were written are those
abbrev pub BytesReadBack : Type 0
BytesReadBack =
    (r : Range) (addr : ℕ) (new : List ℕ) → IsInside r addr (length new)
    → bytes_at (with_bytes r addr new) addr (length new) ≡ new

-- the bytes read apart from where bytes were written are as before
abbrev pub OtherBytesStay : Type 0
OtherBytesStay =
    (r : Range) (addr : ℕ) (new : List ℕ) (other len : ℕ)
    → IsInside r addr (length new) → IsInside r other len → IsApart addr (length new) other len
    → bytes_at (with_bytes r addr new) other len ≡ bytes_at r other len

-- a number that fits its width, read where it was written, is that number
pub record NumbersReadBack (r : Range) (addr n : ℕ) : Type 0 where
  pub in_u8 : IsInside r addr 1 → u8_at (with_u8 r addr n) addr ≡ n
  pub in_u16 : IsInside r addr 2 → n < 2 ^ 16 → u16_at (with_u16 r addr n) addr ≡ n
  pub in_u32 : IsInside r addr 4 → n < 2 ^ 32 → u32_at (with_u32 r addr n) addr ≡ n
  pub in_u64 : IsInside r addr 8 → n < 2 ^ 64 → u64_at (with_u64 r addr n) addr ≡ n

-- the number read apart from where bytes were written is as before
pub record OtherNumbersStay (r : Range) (addr : ℕ) (new : List ℕ) (other : ℕ) : Type 0 where
  pub in_u8 :
      IsInside r other 1 → IsApart addr (length new) other 1 → u8_at (with_bytes r addr new) other ≡ u8_at r other
  pub in_u16 :
      IsInside r other 2 → IsApart addr (length new) other 2 → u16_at (with_bytes r addr new) other ≡ u16_at r other
  pub in_u32 :
      IsInside r other 4 → IsApart addr (length new) other 4 → u32_at (with_bytes r addr new) other ≡ u32_at r other
  pub in_u64 :
      IsInside r other 8 → IsApart addr (length new) other 8 → u64_at (with_bytes r addr new) other ≡ u64_at r other

-- the pages for so many bytes hold them, and one page fewer does not
abbrev pub PagesHold : ℕ → Type 0
PagesHold len = (len ≤ PAGE_BYTES * pages_for len) × (PAGE_BYTES * pages_for len < len + PAGE_BYTES)
