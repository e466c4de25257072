-- No promise: how many blocks there are of each size, beside the blocks.
use Rattle.std.specs.Prelude.{◌≡◌, ◌^◌, ◌≤◌, ℕ, ◌==◌, List, Some, filter, length, map, sum, slice_get}
use Rattle.gt_pages.specs.Ledger.{Block, sizes}
use Rattle.gt_objects.specs.declared.totals.Totals.{Totals}

-- so many blocks have a size
abbrev pub count_of : ℕ → List Block → ℕ
count_of size blocks = length (filter (λ b. b.size == size) blocks)

-- the bytes of blocks
abbrev pub bytes_of : List Block → ℕ
bytes_of blocks = sum (map (λ b. b.size) blocks)

-- these are how many blocks there are of each listed size, how many there are, and their bytes
pub record AreTotals (totals : Totals) (blocks : List Block) : Type 0 where
  pub counts : (i size : ℕ) → slice_get sizes i ≡ Some size → slice_get totals.counts i ≡ Some (count_of size blocks)
  pub many : totals.blocks ≡ length blocks
  pub bytes : totals.bytes ≡ bytes_of blocks

-- blocks of a space: they are few and small enough for the totals
pub record AreFew (blocks : List Block) : Type 0 where
  pub many : length blocks ≤ 2 ^ 23
  pub bytes : bytes_of blocks ≤ 2 ^ 26
