-- What a block holds once a `&mut` to its bytes has ended.
use Rattle.std.specs.Prelude.{ℕ, List}
use Rattle.std.specs.Borrow.{Fml, MutBor, Array, Lends, u8}
use Rattle.gt_space.specs.declared.memory.Bytes.{Bytes}
use Rattle.gt_space.specs.contracts.memory.Bytes.{the_row}

-- the block with these bytes
abbrev pub with_items : Bytes → List ℕ → Bytes
with_items b ws = record { at = b.at; items = ws }

-- the block ends with the bytes that were written last
abbrev pub lends_bytes : MutBor Bytes → MutBor (List ℕ) → Fml
lends_bytes b r = Lends the_row (Array u8 0) b r (with_items b.now)
