-- One leaf of an object, written in the bytes of a heap.
use Rattle.std.specs.Prelude.{◌≡◌, ◌≢◌, ℕ, List, ◌∷◌, Some}
use Rattle.gt_types.specs.declared.program.Program.{Program}
use Rattle.gt_layout.specs.declared.planes.Layouts.{Layouts}
use Rattle.gt_space.specs.Range.{Range, IsSpace}
use Rattle.gt_tree.specs.Trees.{Tree}
use Rattle.gt_tree.specs.Blocks.{Chars, element_type}
use Rattle.gt_value.specs.declared.places.LeafContent.{LeafContent}
use Rattle.gt_leaf.specs.Writing.{IsWrittenInPlace}
use Rattle.gt_graph.specs.Objects.{Object, Graph, object_of, blocks_of}
use Rattle.gt_graph.specs.Changes.{Owner, Of, Writes}
use Rattle.gt_graph.specs.Good.{Heap}
use Rattle.gt_objects.specs.declared.objects.Objects.{Objects}
use Rattle.gt_objects.specs.Holding.{IsHeapOf}
use Rattle.gt_elements.specs.declared.parts.Element.{Element}
use Rattle.gt_elements.specs.Elements.{IsElementOf}

-- a leaf is written in a heap, and these are the bytes, the pages and the directory of the heap then
pub record IsWrittenInHeap (program : Program) (layouts : Layouts) (heap : Heap) (owner : Owner) (path : List ℕ) (leaf : Tree) (new : Objects) : Type 0 where
  pub graph : Graph
  pub writes : Writes program heap.graph owner path leaf graph
  pub holds : IsHeapOf program layouts new (record heap { graph = graph })

-- Where a leaf of an element of an object that holds no characters was written in place, it is written in the heap.
abbrev pub LeavesAreInHeap : Program → Layouts → Type 0
LeavesAreInHeap program layouts =
    (objects : Objects) (heap : Heap) (address place : ℕ) (o : Object) (e : Element) (rest : List ℕ) (leaf : LeafContent) (new : Range) → IsSpace objects.space → IsHeapOf program layouts objects heap
    → object_of heap.graph.objects address ≡ Some o → o.kind ≢ Chars → (here : IsElementOf program layouts heap objects.space o place e)
    → (written : IsWrittenInPlace program layouts (blocks_of heap.graph.objects) heap.graph.statics e.capacity (element_type program o.kind) e.addr here.tree rest leaf objects.space new)
    → IsWrittenInHeap program layouts heap (Of address) (place ∷ rest) written.tree (record objects { space = new })
