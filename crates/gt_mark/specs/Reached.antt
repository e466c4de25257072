-- Which blocks edges reach, and what must hold of tables, bytes and blocks so that they can be marked.
use Rattle.std.specs.Prelude.{◌≡◌, ℕ, List, map, flat_map, IfSome, IsTrue, Contains, All}
use Rattle.gt_space.specs.Range.{Range}
use Rattle.gt_entries.specs.declared.marks.Mark.{Mark}
use Rattle.gt_pages.specs.Slots.{Slot, StartsSome, is_marked}
use Rattle.gt_walk.specs.declared.tables.Tables.{Tables}
use Rattle.gt_walk.specs.Rows.{Edge, edges_of}

-- how the elements of a block are walked: by which walk, and how many of them, which are none of characters
pub record Walked : Type 0 where
  pub walk : ℕ
  pub count : ℕ

-- how each block is walked, by its address
abbrev pub Walks : Type 0
Walks = ℕ → Walked

-- ---- edges

-- the edges of the block at an address
abbrev pub block_edges : Tables → Range → Walks → ℕ → List Edge
block_edges tables space walks address = edges_of tables (walks address).walk (walks address).count space address

-- the edges of the roots, whose rows have addresses in place of offsets
abbrev pub root_edges : Tables → Range → List Edge
root_edges tables space = flat_map (λ walk. edges_of tables walk 1 space 0) tables.roots

-- the blocks that the roots name
abbrev pub root_targets : Tables → Range → List ℕ
root_targets tables space = map (λ e. e.target) (root_edges tables space)

-- an edge leads from the one block to the other
abbrev pub LeadsTo : Tables → Range → Walks → ℕ → ℕ → Type 0
LeadsTo tables space walks from to = (e : Edge) × Contains (block_edges tables space walks from) e × (e.target ≡ to)

-- ---- what is reached

-- edges lead, one after another, from a block to one that is then reached from it; each block reaches itself
pub data Reaches (tables : Tables) (space : Range) (walks : Walks) : ℕ → ℕ → Type 0 where
  itself : {address : ℕ} → Reaches tables space walks address address
  onward : {from through to : ℕ} → LeadsTo tables space walks from through → Reaches tables space walks through to → Reaches tables space walks from to

-- a block is reached from one of those at these addresses
abbrev pub IsReached : Tables → Range → Walks → List ℕ → ℕ → Type 0
IsReached tables space walks starts address = (start : ℕ) × Contains starts start × Reaches tables space walks start address

-- ---- what must hold before

-- a mark has the block's own walk and count
pub record IsOwn (walks : Walks) (address : ℕ) (m : Mark) : Type 0 where
  pub walk : m.walk ≡ (walks address).walk
  pub count : m.count ≡ (walks address).count

-- a marked block starts at the address
abbrev pub IsMarkedAt : List Slot → ℕ → Type 0
IsMarkedAt slots address = (s : Slot) × Contains slots s × (s.address ≡ address) × IsTrue (is_marked s)

-- an edge names the start of a block, and how this block is walked
pub record NamesBlock (slots : List Slot) (walks : Walks) (e : Edge) : Type 0 where
  pub starts : StartsSome slots e.target
  pub walk : e.walk ≡ (walks e.target).walk
  pub count : e.count ≡ (walks e.target).count

-- Blocks can be marked from those at these addresses: a block that is marked before has its own walk and count in its mark, whether or
-- not it is left to a pass, and its edges lead to marked blocks alone, so that it need not be walked again; and each edge of another
-- block that is reached names a block. Nothing more is asked of the tables: edges are what `visit` gives on them.
pub record CanMark (tables : Tables) (space : Range) (walks : Walks) (slots : List Slot) (starts : List ℕ) : Type 0 where
  pub marks : (s : Slot) → Contains slots s → IfSome s.mark (IsOwn walks s.address)
  pub closed : (from to : ℕ) → IsMarkedAt slots from → LeadsTo tables space walks from to → IsMarkedAt slots to
  pub starts_block : All (StartsSome slots) starts
  pub edges : (address : ℕ) → IsReached tables space walks starts address → ¬ IsMarkedAt slots address → All (NamesBlock slots walks) (block_edges tables space walks address)
