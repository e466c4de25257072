-- Where a path leads in the objects of a heap.
use Rattle.std.specs.Prelude.{◌≡◌, ◌<◌, ℕ, Bool, true, false, List, [], ◌∷◌, Option, Some, not, slice_get}
use Rattle.gt_types.specs.declared.program.Program.{Program}
use Rattle.gt_types.specs.declared.program.Root.{Root as RootOf}
use Rattle.gt_layout.specs.declared.planes.Layouts.{Layouts}
use Rattle.gt_script.specs.declared.command.Hop.{Hop}
use Rattle.gt_tree.specs.Trees.{Tree, Trees}
use Rattle.gt_tree.specs.Blocks.{element_type}
use Rattle.gt_tree.specs.Scopes.{Typed, typed}
use Rattle.gt_value.specs.declared.cursors.Cursor.{Cursor}
use Rattle.gt_value.specs.declared.names.BlockKind.{BlockKind}
use Rattle.gt_value.specs.declared.names.BlockKind.TheVariants.{Nodes}
use Rattle.gt_value.specs.Names.{kind_of}
use Rattle.gt_value.specs.Bytes.{StandsFor}
use Rattle.gt_value.specs.Places.{Part}
use Rattle.gt_value.specs.Cursors.{Frame, frame, element_part}
use Rattle.gt_graph.specs.Objects.{Object, object_of}
use Rattle.gt_graph.specs.Changes as graph
use Rattle.gt_graph.specs.Good.{Heap}
use Rattle.gt_objects.specs.declared.objects.Objects.{Objects}
use Rattle.gt_elements.specs.declared.parts.Element.{Element}
use Rattle.gt_elements.specs.Elements.{owner_of, IsFirstOf}
use Rattle.gt_next.specs.declared.answer.Why.{Why}
use Rattle.gt_next.specs.Paths.{StepsIn, RefusesIn, Follows, Steps, RefusesStep}
use Rattle.gt_next.specs.Spots.{Spot, spot, further, Whole, Value, standing_at, is_in_none}
use Rattle.gt_routes.specs.Steps.{StandsAt}
use Rattle.gt_routes.specs.declared.reaching.Start.{Start}
use Rattle.gt_routes.specs.declared.reaching.Start.TheVariants as begins
use Rattle.gt_routes.specs.declared.reaching.End.{End}
use Rattle.gt_routes.specs.declared.reaching.End.TheVariants as ends
use Rattle.gt_routes.specs.declared.reaching.Reached.{Reached}

-- the spot at which a path starts: an object, by its address, or a root, by its place
abbrev pub start_of : Start → Spot
start_of (begins.Object address) = spot (graph.Of address) []
start_of (begins.Root place) = spot graph.Statics (place ∷ [])

-- a path can start there: an object has this address, or there is such a root
abbrev pub IsStart : Program → Heap → Start → Type 0
IsStart program heap (begins.Object address) = (o : Object) × (object_of heap.graph.objects address ≡ Some o)
IsStart program heap (begins.Root place) = (r : RootOf) × (slice_get program.roots place ≡ Some r)

-- the spot to which a path leads
abbrev pub spot_of : Reached → Spot
spot_of to = spot (owner_of to.owner) to.places.items

-- A cursor stands at the value at a spot, in these bytes, and knows whether the spot lies in a common structure while no member of its
-- union is active.
pub record IsValueAt (program : Program) (layouts : Layouts) (objects : Objects) (heap : Heap) (at : Spot) (c : Cursor) : Type 0 where
  pub frame : Frame
  pub value : Part
  pub path : List ℕ
  pub here : StandsAt frame value path c
  pub program_is : frame.program ≡ program
  pub layouts_is : frame.layouts ≡ layouts
  pub space_is : frame.space ≡ objects.space
  pub standing : standing_at program heap.graph at ≡ Some (Value (typed here.here.p.type here.here.p.tree))
  pub active : here.here.p.active ≡ not (is_in_none heap.graph at)

-- what stands at a spot: an object as a whole, or a value at which a cursor stands
abbrev pub IsEndAt : Program → Layouts → Objects → Heap → Spot → End → Type 0
IsEndAt program layouts objects heap at ends.Object = (o : Object) × (at ≡ spot (graph.Of o.id) []) × (standing_at program heap.graph at ≡ Some (Whole o))
IsEndAt program layouts objects heap at (ends.Value c) = IsValueAt program layouts objects heap at c

-- the element that is known of a path, if one is, is the one to which it first leads
abbrev pub IsFirstBy : Program → Layouts → Objects → Heap → graph.Owner → List ℕ → Option Element → Type 0
IsFirstBy program layouts objects heap owner path first = (e : Element) → first ≡ Some e → IsFirstOf program layouts objects heap owner path e

abbrev pub IsFirstIn : Program → Layouts → Objects → Heap → Reached → Type 0
IsFirstIn program layouts objects heap to = IsFirstBy program layouts objects heap (owner_of to.owner) to.places.items to.first

-- a cursor stands at the end of a path in an element, whatever value the bytes of the element stand for
abbrev pub IsInElement : Program → Layouts → Objects → Element → List ℕ → Cursor → Type 0
IsInElement program layouts objects e path c = (statics : Trees) (value : Tree) → StandsFor program layouts e.capacity (element_type program (kind_of e.kind)) objects.space e.addr value
    → StandsAt (frame program layouts objects.space e.addr) (element_part statics (element_type program (kind_of e.kind)) value) path c

-- where the element to which a path first leads is known, a cursor stands in it, at the end of the rest of the path
abbrev pub IsInFirst : Program → Layouts → Objects → Option Element → List ℕ → Cursor → Type 0
IsInFirst program layouts objects first path c = (e : Element) → first ≡ Some e → (place : ℕ) × (rest : List ℕ) × (path ≡ place ∷ rest) × IsInElement program layouts objects e rest c

-- so does the cursor at the end of a path
abbrev pub EndsInFirst : Program → Layouts → Objects → Reached → Type 0
EndsInFirst program layouts objects to = (c : Cursor) → to.end ≡ ends.Value c → IsInFirst program layouts objects to.first to.places.items c

-- ---- no promise: single steps

-- the element at a place of an object is a value at which a cursor stands
pub record IsElementEnd (program : Program) (layouts : Layouts) (objects : Objects) (heap : Heap) (address place : ℕ) (c : Cursor) : Type 0 where
  pub o : Object
  pub there : object_of heap.graph.objects address ≡ Some o
  pub within : place < o.count
  pub at : IsValueAt program layouts objects heap (spot (graph.Of address) (place ∷ [])) c

-- a step in the value at a spot leads to what stands elsewhere
pub record LeadsWithin (program : Program) (layouts : Layouts) (objects : Objects) (heap : Heap) (at : Spot) (hop : Hop) (to : Reached) : Type 0 where
  pub t : Typed
  pub path : List ℕ
  pub standing : standing_at program heap.graph at ≡ Some (Value t)
  pub steps : StepsIn program t hop path
  pub spot_is : spot_of to ≡ further at path
  pub ends : IsEndAt program layouts objects heap (spot_of to) to.end

-- a step in the value at a spot is refused
abbrev pub StopsWithin : Program → Heap → Spot → Hop → Why → Type 0
StopsWithin program heap at hop why = (t : Typed) × (standing_at program heap.graph at ≡ Some (Value t)) × RefusesIn program t hop why

-- each step that begins at a spot leads to what stands elsewhere
pub record LeadsOn (program : Program) (layouts : Layouts) (objects : Objects) (heap : Heap) (at : Spot) (hop : Hop) (to : Reached) : Type 0 where
  pub steps : (from : Spot) → Follows program heap.graph from at → Steps program heap.graph from hop (spot_of to)
  pub ends : IsEndAt program layouts objects heap (spot_of to) to.end

-- each step that begins at a spot is refused
abbrev pub StopsAt : Program → Heap → Spot → Hop → Why → Type 0
StopsAt program heap at hop why = (from : Spot) → Follows program heap.graph from at → RefusesStep program heap.graph from hop why

-- a block holds structures
abbrev pub holds_nodes : BlockKind → Bool
holds_nodes (Nodes node) = true
holds_nodes kind = false
