-- No promise: what an offset in the space is multiplied by in the place of a division by a size.
use Rattle.std.specs.Prelude.{ℕ, ◌+◌, ◌*◌, ◌^◌, ◌<◌, ◌≤◌}

-- its product with the size lies close above 2 ^ 34; nothing is divided by the size 0
pub record IsInverse (bytes inverse : ℕ) : Type 0 where
  pub from : 0 < bytes → 2 ^ 34 ≤ bytes * inverse
  pub to : 0 < bytes → bytes * inverse ≤ 2 ^ 34 + 2 ^ 8
