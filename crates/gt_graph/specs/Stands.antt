-- The bytes that stand for a heap.
use Rattle.std.specs.Prelude.{◌≡◌, ℕ, List, Contains}
use Rattle.gt_types.specs.declared.program.Program.{Program}
use Rattle.gt_layout.specs.declared.planes.Layouts.{Layouts}
use Rattle.gt_space.specs.Range.{Range, IsSized, bytes_at}
use Rattle.gt_tree.specs.Fits.{root_types}
use Rattle.gt_tree.specs.Leaves.{Leaf, FieldsHaveLeaves, Stand}
use Rattle.gt_tree.specs.BlockLeaves.{BlockHasLeaves}
use Rattle.gt_tree.specs.Trees.{Trees}
use Rattle.gt_pages.specs.Ledger.{Block}
use Rattle.gt_graph.specs.Objects.{Object}
use Rattle.gt_graph.specs.Places.{Placed, address_in}
use Rattle.gt_graph.specs.Good.{Heap}

-- all bytes of a block stand for its object: its leaves lie at their places, and every other bit is zero
pub record BlockStands (program : Program) (layouts : Layouts) (address : ℕ → ℕ) (range : Range) (o : Object) (block : Block) : Type 0 where
  pub needed : ℕ
  pub leaves : List Leaf
  pub has : BlockHasLeaves program layouts.structures o.kind o.count o.capacity o.value needed leaves
  pub stand : Stand address leaves (bytes_at range block.address block.size)

-- the static record at the lowest address stands for the values of the roots, and every other bit of it is zero
pub record RecordStands (program : Program) (layouts : Layouts) (address : ℕ → ℕ) (range : Range) (statics : Trees) : Type 0 where
  pub leaves : List Leaf
  pub has : FieldsHaveLeaves program layouts.structures 0 (root_types program) layouts.statics.fields statics leaves
  pub stand : Stand address leaves (bytes_at range range.start layouts.statics.size)

-- The bytes of a space stand for a heap, where a pointer holds the address of the object that it names, and null is 0. Of other bytes
-- nothing is said.
pub record Stands (program : Program) (layouts : Layouts) (heap : Heap) (range : Range) : Type 0 where
  pub sized : IsSized range heap.places.pages layouts.statics.size
  pub statics : RecordStands program layouts (address_in heap.places.placed) range heap.graph.statics
  pub objects : (o : Object) (p : Placed) → Contains heap.graph.objects o → Contains heap.places.placed p → p.id ≡ o.id
      → BlockStands program layouts (address_in heap.places.placed) range o p.block
