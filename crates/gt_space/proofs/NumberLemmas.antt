-- Laws of the numbers in a range, for this crate and the layers above.
use Rattle.std.proofs.Common.{◌≡◌, ℕ, ◌+◌, ◌-◌, ◌^◌, ◌<◌, List, ◌∷◌, [], length, drop, get_or, refl, ap, sym, ◌∙◌, arith}
use Rattle.std.proofs.lemmas.List.{get_or-take, get_or-drop}
use Rattle.std.proofs.lemmas.Nat.{from_le_bytes-to_le_bytes_2, from_le_bytes-to_le_bytes_4, from_le_bytes-to_le_bytes_8}
use Rattle.std.specs.Int.{w16, w32, w64, from_le_bytes, to_le_bytes}
use Rattle.gt_space.specs.Range.{Range, IsInside, bytes_at, with_bytes}
use Rattle.gt_space.specs.Numbers.{u8_at, u16_at, u32_at, u64_at, with_u8, with_u16, with_u32, with_u64}
use Rattle.gt_space.specs.Laws.{IsApart, NumbersReadBack, OtherNumbersStay}
use Rattle.gt_space.proofs.RangeLemmas.{bytes_at-with_bytes, bytes_at-with_bytes_apart}

-- a number is what its bytes say
pub u8_at-bytes_at : (r : Range) (addr : ℕ) → u8_at r addr ≡ get_or (bytes_at r addr 1) 0 0
u8_at-bytes_at r addr =
    let k = addr - r.start in
    let here : k ≡ k + 0 = omega arith in
    ap (λ j. get_or r.bytes j 0) here
    ∙ sym (get_or-drop k r.bytes 0 0)
    ∙ sym (get_or-take 1 (drop k r.bytes) 0 0 (omega arith))

pub u16_at-bytes_at : (r : Range) (addr : ℕ) → u16_at r addr ≡ from_le_bytes w16 (bytes_at r addr 2)
unfolding u16_at
u16_at-bytes_at r addr = refl

pub u32_at-bytes_at : (r : Range) (addr : ℕ) → u32_at r addr ≡ from_le_bytes w32 (bytes_at r addr 4)
unfolding u32_at
u32_at-bytes_at r addr = refl

pub u64_at-bytes_at : (r : Range) (addr : ℕ) → u64_at r addr ≡ from_le_bytes w64 (bytes_at r addr 8)
unfolding u64_at
u64_at-bytes_at r addr = refl

-- a number that fits its width, read where it was written, is that number
pub u8_at-with_u8 : (r : Range) (addr n : ℕ) → IsInside r addr 1 → u8_at (with_u8 r addr n) addr ≡ n
u8_at-with_u8 r addr n inside =
    u8_at-bytes_at (with_u8 r addr n) addr ∙ ap (λ (xs : List ℕ). get_or xs 0 0) (bytes_at-with_bytes r addr (n ∷ []) inside)

pub u16_at-with_u16 : (r : Range) (addr n : ℕ) → IsInside r addr 2 → n < 2 ^ 16 → u16_at (with_u16 r addr n) addr ≡ n
u16_at-with_u16 r addr n inside fits =
    u16_at-bytes_at (with_u16 r addr n) addr
    ∙ ap (from_le_bytes w16) (bytes_at-with_bytes r addr (to_le_bytes w16 n) inside)
    ∙ from_le_bytes-to_le_bytes_2 n fits

pub u32_at-with_u32 : (r : Range) (addr n : ℕ) → IsInside r addr 4 → n < 2 ^ 32 → u32_at (with_u32 r addr n) addr ≡ n
u32_at-with_u32 r addr n inside fits =
    u32_at-bytes_at (with_u32 r addr n) addr
    ∙ ap (from_le_bytes w32) (bytes_at-with_bytes r addr (to_le_bytes w32 n) inside)
    ∙ from_le_bytes-to_le_bytes_4 n fits

pub u64_at-with_u64 : (r : Range) (addr n : ℕ) → IsInside r addr 8 → n < 2 ^ 64 → u64_at (with_u64 r addr n) addr ≡ n
u64_at-with_u64 r addr n inside fits =
    u64_at-bytes_at (with_u64 r addr n) addr
    ∙ ap (from_le_bytes w64) (bytes_at-with_bytes r addr (to_le_bytes w64 n) inside)
    ∙ from_le_bytes-to_le_bytes_8 n fits

pub numbers-with_number : (r : Range) (addr n : ℕ) → NumbersReadBack r addr n
numbers-with_number r addr n =
    record {
      in_u8 = u8_at-with_u8 r addr n;
      in_u16 = u16_at-with_u16 r addr n;
      in_u32 = u32_at-with_u32 r addr n;
      in_u64 = u64_at-with_u64 r addr n;
    }

-- a number apart from a write is as before
pub u8_at-with_bytes_apart :
    (r : Range) (addr : ℕ) (new : List ℕ) (other : ℕ)
    → IsInside r addr (length new) → IsInside r other 1 → IsApart addr (length new) other 1
    → u8_at (with_bytes r addr new) other ≡ u8_at r other
u8_at-with_bytes_apart r addr new other inside there apart =
    u8_at-bytes_at (with_bytes r addr new) other
    ∙ ap (λ (xs : List ℕ). get_or xs 0 0) (bytes_at-with_bytes_apart r addr new other 1 inside there apart)
    ∙ sym (u8_at-bytes_at r other)

pub u16_at-with_bytes_apart :
    (r : Range) (addr : ℕ) (new : List ℕ) (other : ℕ)
    → IsInside r addr (length new) → IsInside r other 2 → IsApart addr (length new) other 2
    → u16_at (with_bytes r addr new) other ≡ u16_at r other
u16_at-with_bytes_apart r addr new other inside there apart =
    u16_at-bytes_at (with_bytes r addr new) other
    ∙ ap (from_le_bytes w16) (bytes_at-with_bytes_apart r addr new other 2 inside there apart)
    ∙ sym (u16_at-bytes_at r other)

pub u32_at-with_bytes_apart :
    (r : Range) (addr : ℕ) (new : List ℕ) (other : ℕ)
    → IsInside r addr (length new) → IsInside r other 4 → IsApart addr (length new) other 4
    → u32_at (with_bytes r addr new) other ≡ u32_at r other
u32_at-with_bytes_apart r addr new other inside there apart =
    u32_at-bytes_at (with_bytes r addr new) other
    ∙ ap (from_le_bytes w32) (bytes_at-with_bytes_apart r addr new other 4 inside there apart)
    ∙ sym (u32_at-bytes_at r other)

pub u64_at-with_bytes_apart :
    (r : Range) (addr : ℕ) (new : List ℕ) (other : ℕ)
    → IsInside r addr (length new) → IsInside r other 8 → IsApart addr (length new) other 8
    → u64_at (with_bytes r addr new) other ≡ u64_at r other
u64_at-with_bytes_apart r addr new other inside there apart =
    u64_at-bytes_at (with_bytes r addr new) other
    ∙ ap (from_le_bytes w64) (bytes_at-with_bytes_apart r addr new other 8 inside there apart)
    ∙ sym (u64_at-bytes_at r other)

pub numbers-with_bytes_apart :
    (r : Range) (addr : ℕ) (new : List ℕ) (other : ℕ) → IsInside r addr (length new) → OtherNumbersStay r addr new other
numbers-with_bytes_apart r addr new other inside =
    record {
      in_u8 = u8_at-with_bytes_apart r addr new other inside;
      in_u16 = u16_at-with_bytes_apart r addr new other inside;
      in_u32 = u32_at-with_bytes_apart r addr new other inside;
      in_u64 = u64_at-with_bytes_apart r addr new other inside;
    }

-- what a number is after a write, for a caller's `using`
pub ruleset numbers = (u8_at-with_u8, u16_at-with_u16, u32_at-with_u32, u64_at-with_u64, u8_at-with_bytes_apart, u16_at-with_bytes_apart, u32_at-with_bytes_apart, u64_at-with_bytes_apart)
