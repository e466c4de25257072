-- What commands change in a heap: one more object, or one leaf of a value.
use Rattle.std.specs.Prelude.{◌≡◌, ◌≢◌, ◌==◌, ℕ, pos, if◌then◌else◌, List, [], ◌∷◌, ◌++◌, Some, All, map}
use Rattle.gt_types.specs.declared.program.Program.{Program}
use Rattle.gt_layout.specs.declared.planes.Layouts.{Layouts}
use Rattle.gt_tree.specs.Trees.{Tree, Num, Row, Trees, End, And, IsZero, tree_at, with_part}
use Rattle.gt_tree.specs.Blocks.{Kind, element_type}
use Rattle.gt_tree.specs.Fits.{BlockFits}
use Rattle.gt_tree.specs.Reshapes.{Assigns, AssignsStatics}
use Rattle.gt_pages.specs.Ledger.{Place}
use Rattle.gt_graph.specs.Objects.{Object, Graph, blocks_of, object_of}
use Rattle.gt_graph.specs.Places.{Placed, ledger_of, ArePlacesOf}
use Rattle.gt_graph.specs.Good.{Heap}

-- ---- one more object

-- one more item, somewhere among the others
abbrev pub Inserts : {X : Type 0} → X → List X → List X → Type 0
Inserts {X} x old new = (front : List X) × (back : List X) × (old ≡ front ++ back) × (new ≡ front ++ x ∷ back)

-- One more object under a new name, in a new block at its place by address. Roots, pairs, image and pages are as before.
pub record Makes (program : Program) (layouts : Layouts) (old : Heap) (object : Object) (placed : Placed) (new : Heap) : Type 0 where
  pub new_name : All (λ o. o.id ≢ object.id) old.graph.objects
  pub named : placed.id ≡ object.id
  pub place : Place (ledger_of old.places) placed.block
  pub objects : Inserts object old.graph.objects new.graph.objects
  pub places : Inserts placed old.places.placed new.places.placed
  pub laid : ArePlacesOf program layouts new.graph.objects new.places
  pub graph : new.graph ≡ record old.graph { objects = new.graph.objects }
  pub rest : new.places ≡ record old.places { placed = new.places.placed }

-- the zero value of a block: it fits, and each of its leaves is 0, null or zero bytes
pub record IsZeroBlock (program : Program) (g : Graph) (kind : Kind) (count capacity : ℕ) (value : Tree) : Type 0 where
  pub fits : BlockFits program (blocks_of g.objects) g.statics kind count capacity value
  pub zero : IsZero value

-- the elements of a block of characters: the bytes of a text and a zero
abbrev pub characters : List ℕ → Trees
characters [] = And (Num (pos 0)) End
characters (byte ∷ bytes) = And (Num (pos byte)) (characters bytes)

-- ---- one leaf

-- an object, with another value where it has this name
abbrev pub valued : ℕ → Tree → Object → Object
valued id value o = if o.id == id then record o { value = value } else o

-- the objects, of which the one of this name has another value
abbrev pub with_value : List Object → ℕ → Tree → List Object
with_value objects id value = map (valued id value) objects

-- A leaf of an element of a block is written: this element becomes what the write makes of it, and the others are as before.
pub record AssignsElement (program : Program) (g : Graph) (o : Object) (path : List ℕ) (leaf new : Tree) : Type 0 where
  pub elements : Trees
  pub row : o.value ≡ Row elements
  pub place : ℕ
  pub rest : List ℕ
  pub leads : path ≡ place ∷ rest
  pub old_element : Tree
  pub there : tree_at elements place ≡ Some old_element
  pub new_element : Tree
  pub assigns : Assigns program (blocks_of g.objects) g.statics o.capacity (element_type program o.kind) old_element rest leaf new_element
  pub made : new ≡ with_part o.value (place ∷ []) new_element

-- what a path leads into: the static record, or an object
pub data Owner : Type 0 where
  Statics : Owner
  Of : (id : ℕ) → Owner

-- a leaf is written in the static record or in an object, and all else is as before
pub data Writes (program : Program) (g : Graph) : Owner → List ℕ → Tree → Graph → Type 0 where
  in_statics : {path : List ℕ} {leaf : Tree} {statics : Trees} → AssignsStatics program (blocks_of g.objects) g.statics path leaf statics
      → Writes program g Statics path leaf (record g { statics = statics })
  in_object : {id : ℕ} {o : Object} {path : List ℕ} {leaf value : Tree} → object_of g.objects id ≡ Some o → AssignsElement program g o path leaf value
      → Writes program g (Of id) path leaf (record g { objects = with_value g.objects id value })
