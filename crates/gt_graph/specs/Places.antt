-- Where objects lie: the ledger with their names.
use Rattle.std.specs.Prelude.{◌≡◌, ◌==◌, ◌<◌, ℕ, ◌+◌, ◌*◌, List, Some, find, map, slice_get, All, Contains}
use Rattle.std.specs.Option.{option_map_or}
use Rattle.gt_types.specs.declared.program.Program.{Program}
use Rattle.gt_layout.specs.declared.planes.Layouts.{Layouts}
use Rattle.gt_tree.specs.Blocks.{Kind, element_type}
use Rattle.gt_value.specs.Bytes.{Takes}
use Rattle.gt_pages.specs.Ledger.{Block, PageRange, Ledger, Sound, rounded}
use Rattle.gt_graph.specs.Objects.{Object}

-- the block of the object of a name
pub record Placed : Type 0 where
  pub id : ℕ
  pub block : Block

-- the blocks of the objects by rising address, the pages of the image, and how many pages the space has
pub record Places : Type 0 where
  pub placed : List Placed
  pub image : PageRange
  pub pages : ℕ

-- the ledger without names
abbrev pub ledger_of : Places → Ledger
ledger_of places = record { blocks = map (λ p. p.block) places.placed; image = places.image; pages = places.pages }

-- the address of the object of a name; 0 where there is none
abbrev pub address_in : List Placed → ℕ → ℕ
address_in placed id = option_map_or (λ p. p.block.address) (find (λ p. p.id == id) placed) 0

-- so many elements of a kind, with room for so many at the end, need so many bytes
abbrev pub Needs : Program → Layouts → Kind → (count capacity bytes : ℕ) → Type 0
Needs program layouts kind count capacity bytes = (size : ℕ) × Takes program layouts capacity (element_type program kind) size × (bytes ≡ count * size)

-- a block has the least size with room for an object
abbrev pub IsSizeFor : Program → Layouts → Object → ℕ → Type 0
IsSizeFor program layouts o size = (bytes : ℕ) × Needs program layouts o.kind o.count o.capacity bytes × (rounded bytes ≡ Some size)

-- The places of objects: they name exactly the objects, in their order; an object's name is its address; the blocks rise and are sound; and
-- each has the size that its object needs.
pub record ArePlacesOf (program : Program) (layouts : Layouts) (objects : List Object) (places : Places) : Type 0 where
  pub names : map (λ p. p.id) places.placed ≡ map (λ o. o.id) objects
  pub by_address : All (λ p. p.id ≡ p.block.address) places.placed
  pub rising : (i : ℕ) (p q : Placed) → slice_get places.placed i ≡ Some p → slice_get places.placed (i + 1) ≡ Some q → p.block.address < q.block.address
  pub sound : Sound (ledger_of places)
  pub sizes : (o : Object) (p : Placed) → Contains objects o → Contains places.placed p → p.id ≡ o.id → IsSizeFor program layouts o p.block.size
