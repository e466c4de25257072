-- How many blocks there are of each size.
use Rattle.std.specs.Prelude.{◌≡◌, ℕ, ◌==◌, List, Some, filter, length, map, sum, slice_get}
use Rattle.gt_pages.specs.Ledger.{Block, sizes}
use Rattle.gt_pages.specs.declared.totals.MarkedTotals.{MarkedTotals}

-- so many blocks have a size
abbrev pub count_of : ℕ → List Block → ℕ
count_of size blocks = length (filter (λ b. b.size == size) blocks)

-- the bytes of blocks
abbrev pub bytes_of : List Block → ℕ
bytes_of blocks = sum (map (λ b. b.size) blocks)

-- these are how many blocks there are of each listed size, how many there are, and their bytes
pub record AreTotals (totals : MarkedTotals) (blocks : List Block) : Type 0 where
  pub counts : (i size : ℕ) → slice_get sizes i ≡ Some size → slice_get totals.counts i ≡ Some (count_of size blocks)
  pub many : totals.blocks ≡ length blocks
  pub bytes : totals.bytes ≡ bytes_of blocks
