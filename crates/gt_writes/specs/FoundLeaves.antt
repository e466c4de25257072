-- Where a leaf of an object was found.
use Rattle.std.specs.Prelude.{◌≡◌, ℕ, List, Some}
use Rattle.gt_types.specs.declared.types.Ty.{Ty}
use Rattle.gt_types.specs.declared.program.Program.{Program}
use Rattle.gt_layout.specs.declared.planes.Layouts.{Layouts}
use Rattle.gt_space.specs.Range.{Range}
use Rattle.gt_tree.specs.Trees.{Tree, Trees}
use Rattle.gt_tree.specs.Blocks.{element_type}
use Rattle.gt_tree.specs.Scopes.{outside}
use Rattle.gt_value.specs.declared.places.Holder.TheVariants as lies_in
use Rattle.gt_value.specs.declared.places.Place.{Place}
use Rattle.gt_value.specs.Names.{kind_of}
use Rattle.gt_value.specs.Bytes.{StandsFor}
use Rattle.gt_value.specs.Places.{IsPlaceOf}
use Rattle.gt_graph.specs.Changes as graph
use Rattle.gt_graph.specs.Good.{Heap}
use Rattle.gt_graph.specs.Objects.{Object, object_of}
use Rattle.gt_objects.specs.declared.objects.Objects.{Objects}
use Rattle.gt_objects.specs.Knowing.{IsKnown}
use Rattle.gt_elements.specs.declared.parts.Element.{Element}
use Rattle.gt_elements.specs.Elements.{IsFirstOf}
use Rattle.gt_writes.specs.declared.found.Found.{Found}
use Rattle.gt_writes.specs.declared.found.Target.{Target}

-- the leaf at a path of a value lies at this place, whatever value the bytes stand for and whatever the roots are
abbrev pub LeafLiesAt : Program → Layouts → ℕ → Ty → Range → ℕ → List ℕ → Place → Type 0
LeafLiesAt program layouts capacity type range address path place = (statics : Trees) (value : Tree) → StandsFor program layouts capacity type range address value
    → IsPlaceOf program layouts.structures (outside statics) lies_in.Element type range address value path place

-- so in an element
abbrev pub LiesInElement : Program → Layouts → Range → Element → List ℕ → Place → Type 0
LiesInElement program layouts range e path place = LeafLiesAt program layouts e.capacity (element_type program (kind_of e.kind)) range e.addr path place

-- what is known of the object at an address
abbrev pub IsTarget : List Object → Target → Type 0
IsTarget objects t = (o : Object) × (object_of objects t.addr ≡ Some o) × IsKnown o t.known

-- a leaf was found at a path: in the element to which the path first leads, at the place where the rest of it leads; and this is known of
-- the object that it is to name, if anything is
pub record IsFoundAt (program : Program) (layouts : Layouts) (objects : Objects) (heap : Heap) (owner : graph.Owner) (path : List ℕ) (f : Found) : Type 0 where
  pub first : IsFirstOf program layouts objects heap owner path f.element
  pub lies : LiesInElement program layouts objects.space f.element first.rest f.place
  pub target : (t : Target) → f.target ≡ Some t → IsTarget heap.graph.objects t
