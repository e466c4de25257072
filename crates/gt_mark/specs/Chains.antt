-- No promise: where the chain pointer of a block lies, and how the blocks of a chain are walked. Only the functions inside the crate cite this.
use Rattle.std.specs.Prelude.{◌≡◌, ◌<◌, ℕ, ◌+◌, ◌-◌, ◌^◌, ◌==◌, ◌&&◌, Bool, true, false, cond, nat_lt, List, ◌∷◌, ◌++◌, length, Option, Some, None, option_and_then}
use Rattle.gt_space.specs.Range.{Range}
use Rattle.gt_walk.specs.declared.rows.Count.{Count}
use Rattle.gt_walk.specs.declared.rows.Count.TheVariants.{Fixed, Length}
use Rattle.gt_walk.specs.declared.rows.WalkRow.{WalkRow, out-WalkRow}
use Rattle.gt_walk.specs.declared.rows.WalkRow.TheOpen.{WalkRow-F, Ptr}
use Rattle.gt_walk.specs.declared.tables.Tables.{Tables}
use Rattle.gt_walk.specs.Rows.{rows_of}
use Rattle.gt_walk.specs.ByRows.{after_note}
use Rattle.gt_mark.specs.declared.chains.Links.{Links}
use Rattle.gt_mark.specs.declared.stack.Block.{Block}
use Rattle.gt_mark.specs.Rounds.{chain_in_note}

-- the address of the chain pointer of a block that has one element, where the note of its rows tells one
abbrev pub chain_place : List WalkRow → Block → Option ℕ
chain_place rows b = cond (b.count == 1) (option_and_then (λ offset. cond (nat_lt (b.addr + offset) (2 ^ 64)) (Some (b.addr + offset)) None) (chain_in_note rows)) None

-- a count of one element
abbrev pub is_one : Count → Bool
is_one (Fixed n) = n == 1
is_one (Length e) = false

-- a row is the pointer at an offset to one element of a walk
abbrev pub is_link : {A B : Type 0} → (offset walk : ℕ) → WalkRow-F A B → Bool
is_link offset walk (Ptr at to count reorder) = at == offset && to == walk && is_one count
is_link offset walk row = false

-- a row is such a pointer, and the rows are those before it, it, and those after it
pub record HasLink (offset walk : ℕ) (rows before after : List WalkRow) : Type 0 where
  pub link : WalkRow
  pub is : is_link offset walk (out-WalkRow link) ≡ true
  pub around : rows ≡ before ++ link ∷ after

-- The links are those of the block. It has one element, and a chain pointer that its note tells, to one element of the same walk. They say this
-- walk, the offset of the chain pointer, the rows before it and after it, where the space ends, and at how many addresses eight bytes lie in it.
pub record AreLinks (tables : Tables) (space : Range) (b : Block) (l : Links) : Type 0 where
  pub one : b.count ≡ 1
  pub walk : b.walk ≡ l.walk
  pub rows : HasLink l.offset l.walk (after_note (rows_of tables b.walk)) l.before.now l.after.now
  pub chain : chain_in_note (rows_of tables b.walk) ≡ Some l.offset
  pub near : l.offset < 2 ^ 32
  pub end : l.end ≡ space.start + length space.bytes
  pub small : l.end < 2 ^ 32
  pub words : l.words ≡ length space.bytes - 7
