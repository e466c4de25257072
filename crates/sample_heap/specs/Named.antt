-- What is tested of a heap before its blocks are marked. How blocks are walked is told by their marks in a second heap.
use Rattle.std.specs.Prelude.{◌≡◌, ℕ, List, [], ◌∷◌, Option, Some, None, is_some, IsTrue, All, Contains}
use Rattle.gt_space.specs.Range.{Range}
use Rattle.gt_entries.specs.declared.marks.Mark.{Mark}
use Rattle.gt_pages.specs.Slots.{Slot, StartsSome, mark_at}
use Rattle.gt_walk.specs.declared.tables.Tables.{Tables}
use Rattle.gt_walk.specs.Rows.{Edge, edges_of}
use Rattle.gt_mark.specs.Reached.{CanMark, Walked, Walks}
use Rattle.sample_heap.specs.declared.edges.EdgeTest.{EdgeTest}

-- how each block is walked: by the walk and the count of its mark
abbrev pub walked_in : Option Mark → Walked
walked_in None = record { walk = 0; count = 0 }
walked_in (Some m) = record { walk = m.walk; count = m.count }

abbrev pub walks_of : List Slot → Walks
walks_of known address = walked_in (mark_at known address)

-- the block at an address has this mark
pub record HasMark (slots : List Slot) (address : ℕ) (m : Mark) : Type 0 where
  pub starts : StartsSome slots address
  pub is : mark_at slots address ≡ Some m

-- the block at an address has a mark of this walk and count
pub record HasMarkOf (slots : List Slot) (address walk count : ℕ) : Type 0 where
  pub mark : Mark
  pub has : HasMark slots address mark
  pub same_walk : mark.walk ≡ walk
  pub same_count : mark.count ≡ count

-- an edge names a block that has such a mark in the one heap, and starts in the other
pub record NamesMarked (known slots : List Slot) (target walk count : ℕ) : Type 0 where
  pub marked : HasMarkOf known target walk count
  pub starts : StartsSome slots target

-- each of these edges does
abbrev pub AllName : (known slots : List Slot) → List Edge → Type 0
AllName known slots edges = All (λ e. NamesMarked known slots e.target e.walk e.count) edges

-- what a test of an edge leaves
pub record Tests (old : EdgeTest) (e : Edge) (new : EdgeTest) : Type 0 where
  pub known : new.known.now ≡ old.known.now
  pub pages : new.pages.now ≡ old.pages.now
  pub held : IsTrue new.holds → IsTrue old.holds
  pub names : IsTrue new.holds → NamesMarked old.known.now.slots old.pages.now.slots e.target e.walk e.count

-- each edge of a marked block names one
abbrev pub AreNamed : Tables → Range → (known slots : List Slot) → Type 0
AreNamed tables space known slots = (address : ℕ) (m : Mark) → mark_at known address ≡ Some m → AllName known slots (edges_of tables m.walk m.count space address)

-- a block that is marked in the heap has the same walk and count in the second one
abbrev pub AreKnown : (known slots : List Slot) → Type 0
AreKnown known slots = (address : ℕ) (m : Mark) → mark_at slots address ≡ Some m → HasMarkOf known address m.walk m.count

-- the heap has passed its tests
pub record IsReady (tables : Tables) (space : Range) (known slots : List Slot) : Type 0 where
  pub are_known : AreKnown known slots
  pub are_named : AreNamed tables space known slots
  pub are_closed : AreNamed tables space slots slots

-- each of these blocks starts in the heap, and is marked in the second one
abbrev pub AllKnown : (known slots : List Slot) → List ℕ → Type 0
AllKnown known slots blocks = (address : ℕ) → Contains blocks address → StartsSome slots address × IsTrue (is_some (mark_at known address))

-- blocks can be marked from each of these
abbrev pub CanMarkEach : Tables → Range → (known slots : List Slot) → List ℕ → Type 0
CanMarkEach tables space known slots blocks = (address : ℕ) → Contains blocks address → CanMark tables space (walks_of known) slots (address ∷ [])
