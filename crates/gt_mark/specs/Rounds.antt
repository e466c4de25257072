-- How often the marked blocks are passed over.
use Rattle.std.specs.Prelude.{◌≡◌, ◌≢◌, ◌⊎◌, ◌≤◌, ◌+◌, ℕ, List, [], ◌∷◌, length, count_by, nat_eq, Option, Some, None, Contains, All}
use Rattle.std.specs.List.{IsDistinct}
use Rattle.gt_space.specs.Range.{Range}
use Rattle.gt_pages.specs.Slots.{Slot, is_marked}
use Rattle.gt_walk.specs.declared.rows.WalkRow.{WalkRow, out-WalkRow}
use Rattle.gt_walk.specs.declared.rows.WalkRow.TheOpen.{WalkRow-F, Note}
use Rattle.gt_walk.specs.declared.tables.Tables.{Tables}
use Rattle.gt_walk.specs.Rows.{Edge, rows_of}
use Rattle.gt_mark.specs.Reached.{Walks, block_edges, LeadsTo, IsMarkedAt}

-- the offset of the chain pointer that a note tells
abbrev pub chain_in : {A B : Type 0} → WalkRow-F A B → Option ℕ
chain_in (Note size chain) = chain
chain_in row = None

-- the offset of the chain pointer of a walk, which its note tells
abbrev pub chain_in_note : List WalkRow → Option ℕ
chain_in_note [] = None
chain_in_note (row ∷ rows) = chain_in (out-WalkRow row)

-- an edge of a block lies at the chain pointer of its one element
abbrev pub IsChainEdge : Tables → Walks → ℕ → Edge → Type 0
IsChainEdge tables walks address e =
    (offset : ℕ) × ((walks address).count ≡ 1) × (chain_in_note (rows_of tables (walks address).walk) ≡ Some offset) × (e.place ≡ address + offset)

-- a block is marked now and was not before
pub record IsNewlyMarked (old new : List Slot) (address : ℕ) : Type 0 where
  pub now : IsMarkedAt new address
  pub not_before : ¬ IsMarkedAt old address

-- marking starts at the block, or an edge other than a chain edge leads to it from a newly marked block
abbrev pub IsNamedAside : Tables → Range → Walks → List ℕ → (old new : List Slot) → ℕ → Type 0
IsNamedAside tables space walks starts old new address =
    Contains starts address
    ⊎ ((from : ℕ) × (e : Edge) × IsNewlyMarked old new from × Contains (block_edges tables space walks from) e × (¬ IsChainEdge tables walks from e) × (e.target ≡ address))

-- an edge of this block leads to the other, which was not marked before; and marking does not start at it, nor do edges lead to it
-- from another block that is marked now
pub record IsOnlyFrom (tables : Tables) (space : Range) (walks : Walks) (starts : List ℕ) (old new : List Slot) (from address : ℕ) : Type 0 where
  pub leads : LeadsTo tables space walks from address
  pub unmarked : ¬ IsMarkedAt old address
  pub no_start : ¬ Contains starts address
  pub no_other : (other : ℕ) → other ≢ from → IsMarkedAt new other → ¬ LeadsTo tables space walks other address

-- How many rounds there were: at least one, and at most one more than there are newly marked blocks. There was one where no more than 64 of these
-- are named by another edge than a chain edge, since the stack has room for 64. There were at least two where one block leads to 66 that nothing
-- else names, which are more than the stack and the chain pointer can take. Between these bounds the number is free.
pub record AreRounds (tables : Tables) (space : Range) (walks : Walks) (starts : List ℕ) (old new : List Slot) (rounds : ℕ) : Type 0 where
  pub at_least : 1 ≤ rounds
  pub at_most : rounds + count_by is_marked old ≤ 1 + count_by is_marked new
  pub one : (blocks : List ℕ) → length blocks ≤ 64
      → ((address : ℕ) → IsNewlyMarked old new address → IsNamedAside tables space walks starts old new address → Contains blocks address) → rounds ≡ 1
  pub more : (from : ℕ) (blocks : List ℕ) → IsNewlyMarked old new from → IsDistinct nat_eq blocks → 66 ≤ length blocks
      → All (IsOnlyFrom tables space walks starts old new from) blocks → 2 ≤ rounds
