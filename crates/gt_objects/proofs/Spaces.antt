-- Where blocks and the static record lie in a space.
use Rattle.std.proofs.Common.{◌≡◌, ℕ, ◌+◌, ◌≤◌, List, length, subst, sym, arith}
use Rattle.gt_space.specs.Range.{Range, IsInside, IsSized, with_bytes}
use Rattle.gt_space.proofs.RangeLemmas.{length-with_bytes}
use Rattle.gt_pages.specs.Ledger.{page_address}

module _ (range : Range) (pages statics : ℕ) (sized : IsSized range pages statics) where
  -- a block in the pages is inside
  pub block_inside : (address size : ℕ) → 0x10000000 ≤ address → address + size ≤ page_address pages → IsInside range address size
  block_inside address size above below =
      let start = sized.start in
      let len = sized.len in
      record { from_start = omega (arith, start, above); to_end = omega (arith, start, len, below) }

  module _ (few : statics ≤ 1048576) where
    pub record_inside : IsInside range range.start statics
    record_inside = let len = sized.len in record { from_start = omega arith; to_end = omega (arith, len) }

    -- the static record lies below all blocks
    pub record_below : (address : ℕ) → 0x10000000 ≤ address → range.start + statics ≤ address
    record_below address above = let start = sized.start in omega (arith, start, above, few)

-- a write leaves a space as long as it was
pub sized_after : (old new : Range) (pages statics address : ℕ) (bytes : List ℕ) → IsSized old pages statics → IsInside old address (length bytes) → new ≡ with_bytes old address bytes
    → IsSized new pages statics
sized_after old new pages statics address bytes sized inside is =
    let len = length-with_bytes old address bytes inside in
    let was = sized.len in
    subst (λ r. IsSized r pages statics) (sym is) (record { start = sized.start; len = omega (arith, len, was) })
