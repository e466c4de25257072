-- One more object.
use Rattle.std.specs.Prelude.{◌≡◌, ℕ, suc, List, length, Some, None}
use Rattle.gt_types.specs.declared.program.Program.{Program}
use Rattle.gt_layout.specs.declared.planes.Layouts.{Layouts}
use Rattle.gt_space.specs.Range.{with_bytes}
use Rattle.gt_tree.specs.Trees.{Row, IsZero}
use Rattle.gt_tree.specs.Blocks.{Chars}
use Rattle.gt_value.specs.declared.names.BlockKind.TheVariants as told
use Rattle.gt_value.specs.Names.{kind_of}
use Rattle.gt_pages.specs.Ledger.{Block, Place, rounded, insert_by, with_block}
use Rattle.gt_pages.specs.Contents as pages
use Rattle.gt_directory.specs.Directories.{Learns}
use Rattle.gt_graph.specs.Objects.{Object, Graph}
use Rattle.gt_graph.specs.Places.{Placed, Needs}
use Rattle.gt_graph.specs.Good.{Heap, IsObject}
use Rattle.gt_graph.specs.Changes.{Makes, characters}
use Rattle.gt_objects.specs.declared.objects.Known.{Known}
use Rattle.gt_objects.specs.declared.objects.Objects.{Objects}
use Rattle.gt_objects.specs.Knowing.{IsKnown}
use Rattle.gt_objects.specs.Holding.{IsHeapOf}

-- ---- sizes

-- an object of which this is known needs so many bytes
abbrev pub NeedsBytes : Program → Layouts → Known → ℕ → Type 0
NeedsBytes program layouts known bytes = Needs program layouts (kind_of known.kind) known.count known.capacity bytes

-- its block has this size: the least with room for it
abbrev pub HasSize : Program → Layouts → Known → ℕ → Type 0
HasSize program layouts known size = (bytes : ℕ) × NeedsBytes program layouts known bytes × (rounded bytes ≡ Some size)

-- no block has room for it
abbrev pub IsTooLarge : Program → Layouts → Known → Type 0
IsTooLarge program layouts known = (bytes : ℕ) × NeedsBytes program layouts known bytes × (rounded bytes ≡ None)

-- ---- the new object

-- an object that may be made, under whatever name: it may stand in the graph, it is zero, and this is what is known of it
pub record IsZeroObject (program : Program) (g : Graph) (known : Known) (o : Object) : Type 0 where
  pub object : IsObject program g o
  pub zero : IsZero o.value
  pub is_known : IsKnown o known

-- an object under another name
abbrev pub named : ℕ → Object → Object
named id o = record o { id = id }

-- the block of so many bytes at an address, which is the name of its object
abbrev pub placed : (address size : ℕ) → Placed
placed address size = record { id = address; block = record { address = address; size = size } }

-- the heap with one more object at its place by address
abbrev pub with_object : Heap → Object → Placed → Heap
with_object heap o p = record {
  graph = record heap.graph { objects = insert_by (λ x. x.id) o heap.graph.objects };
  places = record heap.places { placed = insert_by (λ x. x.id) p heap.places.placed };
}

-- One more object is made, in a block of so many bytes at an address, which is its name; and these are the bytes, the pages and the
-- directory of the heap with it.
pub record IsMade (program : Program) (layouts : Layouts) (heap : Heap) (o : Object) (address size : ℕ) (new : Objects) : Type 0 where
  pub makes : Makes program layouts heap (named address o) (placed address size) (with_object heap (named address o) (placed address size))
  pub holds : IsHeapOf program layouts new (with_object heap (named address o) (placed address size))

-- ---- a text

-- what is known of the characters of a text: there is one more, the zero after them
abbrev pub known_text : List ℕ → Known
known_text bytes = record { kind = told.Chars; count = suc (length bytes); capacity = 0 }

-- the characters of a text, under no name yet
abbrev pub text_object : List ℕ → Object
text_object bytes = record { id = 0; kind = Chars; count = suc (length bytes); capacity = 0; value = Row (characters bytes) }

-- ---- no promise: what the functions inside the crate do

abbrev pub block_at : (address size : ℕ) → Block
block_at address size = record { address = address; size = size }

-- a new block with these bytes, of which the directory knows this
pub record TakesBlock (old : Objects) (known : Known) (address size : ℕ) (contents : List ℕ) (new : Objects) : Type 0 where
  pub place : Place (pages.ledger_of old.pages) (block_at address size)
  pub ledger : pages.ledger_of new.pages ≡ with_block (pages.ledger_of old.pages) (block_at address size)
  pub laid : pages.AreLaidOut new.pages
  pub bytes : new.space ≡ with_bytes old.space address contents
  pub learns : Learns old.directory address size known new.directory
  pub shelves : length new.directory.shelves ≡ length old.directory.shelves

-- bytes, blocks and what is known are as before
pub record IsAsBefore (old new : Objects) : Type 0 where
  pub bytes : new.space ≡ old.space
  pub ledger : pages.ledger_of new.pages ≡ pages.ledger_of old.pages
  pub shelves : new.directory.shelves ≡ old.directory.shelves
