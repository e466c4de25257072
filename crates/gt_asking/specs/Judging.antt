-- No promise: which leaves may be written at the end of a path, as the functions inside the crate tell it.
use Rattle.std.specs.Prelude.{◌≡◌, ℕ, Bool, true, false, not, ◌&&◌, List, Option, Some, None, IsTrue, ◌⊎◌}
use Rattle.gt_types.specs.declared.types.Ty.{Ty}
use Rattle.gt_types.specs.declared.program.Program.{Program}
use Rattle.gt_types.specs.Shapes.{is_pointer}
use Rattle.gt_tree.specs.Trees.{is_word}
use Rattle.gt_tree.specs.Blocks.{Chars}
use Rattle.gt_tree.specs.Scopes.{Typed}
use Rattle.gt_value.specs.declared.cursors.Cursor.{Cursor}
use Rattle.gt_value.specs.declared.places.Place.{Place}
use Rattle.gt_value.specs.Places.{Part, IsPlaceOfPart}
use Rattle.gt_value.specs.Cursors.{Frame, IsAt}
use Rattle.gt_value.specs.declared.places.LeafContent.{LeafContent}
use Rattle.gt_value.specs.declared.places.LeafContent.TheVariants as content
use Rattle.gt_graph.specs.Objects.{Object, object_of}
use Rattle.gt_graph.specs.Changes.{Owner, Of}
use Rattle.gt_graph.specs.Good.{Heap}
use Rattle.gt_next.specs.declared.answer.Why.{Why}
use Rattle.gt_next.specs.declared.answer.Why.TheVariants.{WrongType, OutOfRange, Inactive}
use Rattle.gt_next.specs.Spots.{Spot, Value, standing_at, is_in_none}
use Rattle.gt_script.specs.declared.command.Given.{Given}
use Rattle.gt_script.specs.declared.command.Given.TheVariants as given
use Rattle.gt_script.specs.declared.command.Route.{Route}
use Rattle.gt_next.specs.States.{State, meaning}
use Rattle.gt_next.specs.Paths.{Leads, RefusesPath}
use Rattle.gt_next.specs.Leaves.{takes_numbers, is_in_range, kind_named}
use Rattle.gt_writes.specs.declared.found.Target.{Target}
use Rattle.gt_writes.specs.FoundLeaves.{IsTarget}

-- a number is beyond the range of a type
abbrev pub is_beyond : Ty → LeafContent → Bool
is_beyond type (content.Num n) = not (is_in_range type n)
is_beyond type leaf = false

-- a pointer lies in a common structure while no member of its union is active
abbrev pub is_idle : Heap → Spot → Ty → Bool
is_idle heap at type = is_pointer type && is_in_none heap.graph at

-- the characters of a string never change
abbrev pub IsFixedIn : Heap → Owner → Type 0
IsFixedIn heap owner = (id : ℕ) × (o : Object) × (owner ≡ Of id) × (object_of heap.graph.objects id ≡ Some o) × (o.kind ≡ Chars)

-- a leaf suits a type, but for the range of a number
abbrev pub SuitsAs : List Object → Ty → LeafContent → Type 0
SuitsAs objects type (content.Num n) = takes_numbers type ≡ true
SuitsAs objects type content.Null = is_pointer type ≡ true
SuitsAs objects type (content.To id) = (o : Object) × (object_of objects id ≡ Some o) × (kind_named type ≡ Some o.kind)

-- the place of the leaf at which a cursor stands
abbrev pub IsLeafOf : Cursor → Place → Type 0
IsLeafOf c place = (at : Frame) (value : Part) (path : List ℕ) (there : IsAt at c value path) → IsPlaceOfPart at.program at.space at.addr there.p place

-- what a cursor tells of the leaf at which it stands: its place, or that it stands at none
abbrev pub IsLeafTold : Cursor → Option Place → Type 0
IsLeafTold c (Some place) = IsLeafOf c place
IsLeafTold c None = (at : Frame) (value : Part) (path : List ℕ) (there : IsAt at c value path) → is_word there.p.tree ≡ false

-- what is known of the object that a leaf names; nothing where it names none
abbrev pub IsNamed : List Object → LeafContent → Option Target → Type 0
IsNamed objects (content.To id) (Some t) = (t.addr ≡ id) × IsTarget objects t
IsNamed objects (content.To id) None = object_of objects id ≡ None
IsNamed objects leaf t = t ≡ None

-- a leaf suits the value at a spot
abbrev pub IsSuitedAt : Program → Heap → Spot → LeafContent → Type 0
IsSuitedAt program heap at leaf = (t : Typed) × (standing_at program heap.graph at ≡ Some (Value t)) × SuitsAs heap.graph.objects t.type leaf × (¬ IsFixedIn heap at.owner)

-- the value at a spot is an idle pointer
abbrev pub IsIdleAt : Program → Heap → Spot → Type 0
IsIdleAt program heap at = (t : Typed) × (standing_at program heap.graph at ≡ Some (Value t)) × IsTrue (is_pointer t.type) × IsTrue (is_in_none heap.graph at)

-- why a leaf may not be written at a spot
abbrev pub RefusesLeaf : Program → Heap → Spot → LeafContent → Why → Type 0
RefusesLeaf program heap at leaf Inactive = IsIdleAt program heap at
RefusesLeaf program heap at leaf WrongType = (¬ IsIdleAt program heap at) × (¬ IsSuitedAt program heap at leaf)
RefusesLeaf program heap at leaf OutOfRange =
    (¬ IsIdleAt program heap at) × IsSuitedAt program heap at leaf × (t : Typed) × (standing_at program heap.graph at ≡ Some (Value t)) × (is_beyond t.type leaf ≡ true)
RefusesLeaf program heap at leaf why = ⊥

-- what a value that is given is as a leaf
abbrev pub IsGivenAs : State → Given → LeafContent → Type 0
IsGivenAs s (given.Integer n) leaf = leaf ≡ content.Num n
IsGivenAs s given.Null leaf = leaf ≡ content.Null
IsGivenAs s (given.Var name) leaf = (id : ℕ) × (meaning s.variables name ≡ Some id) × (leaf ≡ content.To id)

-- why a leaf may not be written at the end of a path: the path is refused, or the leaf is where it leads
abbrev pub RefusesAim : Program → State → Route → LeafContent → Why → Type 0
RefusesAim program s path leaf why = RefusesPath program s path why ⊎ ((at : Spot) × Leads program s path at × RefusesLeaf program s.heap at leaf why)
