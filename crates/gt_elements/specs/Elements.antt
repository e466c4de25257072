-- The elements of objects, and what of a heap its bytes stand for.
use Rattle.std.specs.Prelude.{◌≡◌, ◌<◌, ℕ, ◌+◌, ◌*◌, List, [], ◌∷◌, Option, Some, None}
use Rattle.gt_types.specs.declared.program.Program.{Program}
use Rattle.gt_layout.specs.declared.planes.Layouts.{Layouts}
use Rattle.gt_space.specs.Range.{Range, IsInside}
use Rattle.gt_tree.specs.Trees.{Tree, part_at}
use Rattle.gt_tree.specs.Blocks.{element_type}
use Rattle.gt_value.specs.Names.{kind_of}
use Rattle.gt_value.specs.Bytes.{IsRoomFor, Takes}
use Rattle.gt_leaf.specs.Writing.{StandsBeside, StaticsStandBeside}
use Rattle.gt_graph.specs.Objects.{Object, object_of, blocks_of}
use Rattle.gt_graph.specs.Good.{Heap}
use Rattle.gt_graph.specs.Changes as graph
use Rattle.gt_objects.specs.declared.objects.Objects.{Objects}
use Rattle.gt_elements.specs.declared.parts.Owner.{Owner}
use Rattle.gt_elements.specs.declared.parts.Owner.TheVariants as leads_into
use Rattle.gt_elements.specs.declared.parts.Element.{Element}

-- what a path leads into, as the graph knows it: an object is named by its address
abbrev pub owner_of : Owner → graph.Owner
owner_of leads_into.Statics = graph.Statics
owner_of (leads_into.Object address) = graph.Of address

-- The element of an object at a place: what the object holds, for how many elements there is room, and where its bytes lie, which stand
-- for it beside the objects and the roots.
pub record IsElementOf (program : Program) (layouts : Layouts) (heap : Heap) (range : Range) (o : Object) (place : ℕ) (e : Element) : Type 0 where
  pub kind : o.kind ≡ kind_of e.kind
  pub capacity : o.capacity ≡ e.capacity
  pub lies : (size : ℕ) → Takes program layouts e.capacity (element_type program o.kind) size → e.addr ≡ o.id + size * place
  pub inside : IsRoomFor program layouts e.capacity (element_type program o.kind) range e.addr
  pub tree : Tree
  pub there : part_at o.value (place ∷ []) ≡ Some tree
  pub stands : StandsBeside program layouts (blocks_of heap.graph.objects) heap.graph.statics e.capacity (element_type program o.kind) range e.addr tree

-- what is answered of a place in an object: the element there; or that no object of this name has one
abbrev pub IsElementAt : Program → Layouts → Heap → Range → ℕ → ℕ → Option Element → Type 0
IsElementAt program layouts heap range address place None = (o : Object) → object_of heap.graph.objects address ≡ Some o → ¬ (place < o.count)
IsElementAt program layouts heap range address place (Some e) = (o : Object) × (object_of heap.graph.objects address ≡ Some o) × IsElementOf program layouts heap range o place e

-- the element to which a path in an object first leads
pub record IsFirstOf (program : Program) (layouts : Layouts) (objects : Objects) (heap : Heap) (owner : graph.Owner) (path : List ℕ) (e : Element) : Type 0 where
  pub address : ℕ
  pub place : ℕ
  pub rest : List ℕ
  pub owner_is : owner ≡ graph.Of address
  pub path_is : path ≡ place ∷ rest
  pub there : IsElementAt program layouts heap objects.space address place (Some e)

-- the static record lies in the space, and its bytes stand for the values of the roots, beside the objects
pub record RootsStand (program : Program) (layouts : Layouts) (objects : Objects) (heap : Heap) : Type 0 where
  pub inside : IsInside objects.space objects.space.start layouts.statics.size
  pub stand : StaticsStandBeside program layouts (blocks_of heap.graph.objects) objects.space heap.graph.statics
