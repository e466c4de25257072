-- What stands at the end of a path, and what a value is there.
use Rattle.std.specs.Prelude.{◌≡◌, ◌<◌, ◌==◌, ℕ, ℤ, Bool, true, false, ◌||◌, IsTrue, List, Option, Some, None, All}
use Rattle.gt_types.specs.declared.types.Target.TheVariants as target
use Rattle.gt_types.specs.declared.types.PtrKind.TheVariants as kind
use Rattle.gt_types.specs.declared.types.Ty.{Ty}
use Rattle.gt_types.specs.declared.types.Ty.TheVariants as ty
use Rattle.gt_types.specs.declared.program.Program.{Program}
use Rattle.gt_types.specs.Shapes.{is_number, is_pointer}
use Rattle.gt_script.specs.declared.command.Given.{Given}
use Rattle.gt_script.specs.declared.command.Given.TheVariants as given
use Rattle.gt_tree.specs.Numbers.{has_room}
use Rattle.gt_tree.specs.Trees.{Tree, Num, Null, To, Raw}
use Rattle.gt_tree.specs.Blocks.{Kind, Nodes, Pointers, Strings, Chars}
use Rattle.gt_tree.specs.Blocks as block
use Rattle.gt_tree.specs.Scopes.{Typed, typed}
use Rattle.gt_tree.specs.PathLaws.{has_room_in}
use Rattle.gt_value.specs.declared.places.LeafContent.TheVariants as content
use Rattle.gt_value.specs.Places.{IsContentOf}
use Rattle.gt_graph.specs.Objects.{Object, object_of}
use Rattle.gt_graph.specs.Changes.{Of}
use Rattle.gt_next.specs.declared.answer.Why.{Why}
use Rattle.gt_next.specs.declared.answer.Why.TheVariants.{WrongType, OutOfRange, Inactive}
use Rattle.gt_next.specs.States.{State, Variables, meaning}
use Rattle.gt_next.specs.Spots.{Spot, Standing, Whole, Value, standing_at, is_in_none}

-- ---- leaves that are read

-- what is read: a number, null, or an object
pub data Got : Type 0 where
  IsNumber : ℤ → Got
  IsNull : Got
  IsObject : (id : ℕ) → Got

-- what is read at a spot: the number there, also of eight bytes that are never scanned; a pointer that is null; or the object that stands
-- there or to which a pointer leads
pub data Reads : Standing → Got → Type 0 where
  number : {type : Ty} {tree : Tree} {n : ℤ} → IsContentOf (content.Num n) tree → Reads (Value (typed type tree)) (IsNumber n)
  null : {type : Ty} → Reads (Value (typed type Null)) IsNull
  pointed : {type : Ty} {id : ℕ} → Reads (Value (typed type (To id))) (IsObject id)
  whole : {o : Object} → Reads (Whole o) (IsObject o.id)

-- ---- leaves that are written

-- eight bytes that are never scanned are a number with a sign; other sizes are no leaf
abbrev pub is_word_type : Ty → Bool
is_word_type (ty.Opaque size align) = size == 8
is_word_type type = false

abbrev pub takes_numbers : Ty → Bool
takes_numbers type = is_number type || is_word_type type

-- a number is in the range of a type
abbrev pub is_in_range : Ty → ℤ → Bool
is_in_range (ty.Opaque size align) n = has_room true 64 n
is_in_range type n = has_room_in type n

-- what a block holds that a pointer of a type names by its declaration
abbrev pub kind_named : Ty → Option Kind
kind_named (ty.Str len) = Some Chars
kind_named (ty.Ptr (Some (target.Node node)) kind reorder) = Some (Nodes node)
kind_named (ty.Ptr (Some (target.Pointers node)) kind reorder) = Some (Pointers node)
kind_named (ty.Ptr (Some target.Strings) kind reorder) = Some Strings
kind_named (ty.Ptr None kind.Atomic reorder) = Some block.Raw
kind_named type = None

-- a value suits a type: a number one that takes numbers, null a pointer, and a variable a pointer that names such blocks as its object
pub data Suits (objects : List Object) (variables : Variables) : Ty → Given → Type 0 where
  a_number : {type : Ty} {n : ℤ} → IsTrue (takes_numbers type) → Suits objects variables type (given.Integer n)
  null : {type : Ty} → IsTrue (is_pointer type) → Suits objects variables type given.Null
  a_variable : {type : Ty} {name : List ℕ} {id : ℕ} {o : Object} → meaning variables name ≡ Some id → object_of objects id ≡ Some o → kind_named type ≡ Some o.kind
      → Suits objects variables type (given.Var name)

-- a number beyond the range of its place
pub data IsBeyond : Ty → Given → Type 0 where
  beyond : {type : Ty} {n : ℤ} → IsTrue (takes_numbers type) → is_in_range type n ≡ false → IsBeyond type (given.Integer n)

-- what a value is as a leaf
pub data IsLeaf (variables : Variables) : Ty → Given → Tree → Type 0 where
  a_number : {type : Ty} {n : ℤ} → IsTrue (is_number type) → IsLeaf variables type (given.Integer n) (Num n)
  a_word : {type : Ty} {n : ℤ} {bytes : List ℕ} → IsTrue (is_word_type type) → IsContentOf (content.Num n) (Raw bytes) → All (λ byte. byte < 256) bytes
      → IsLeaf variables type (given.Integer n) (Raw bytes)
  null : {type : Ty} → IsLeaf variables type given.Null Null
  a_variable : {type : Ty} {name : List ℕ} {id : ℕ} → meaning variables name ≡ Some id → IsLeaf variables type (given.Var name) (To id)

-- the characters of a string never change
abbrev pub IsFixed : State → Spot → Type 0
IsFixed s at = (id : ℕ) × (o : Object) × (at.owner ≡ Of id) × (object_of s.heap.graph.objects id ≡ Some o) × (o.kind ≡ Chars)

-- the value is a variable that is not bound
pub data IsUnboundValue (s : State) : Given → Type 0 where
  unbound : {name : List ℕ} → meaning s.variables name ≡ None → IsUnboundValue s (given.Var name)

-- a pointer of a common structure while no member of its union is active
abbrev pub IsIdlePointer : Program → State → Spot → Type 0
IsIdlePointer program s at = (t : Typed) × (standing_at program s.heap.graph at ≡ Some (Value t)) × IsTrue (is_pointer t.type) × IsTrue (is_in_none s.heap.graph at)

-- a value that suits the place
abbrev pub IsSuited : Program → State → Spot → Given → Type 0
IsSuited program s at value = (t : Typed) × (standing_at program s.heap.graph at ≡ Some (Value t)) × Suits s.heap.graph.objects s.variables t.type value × (¬ IsFixed s at)

-- Why a value is refused at a spot: a pointer of a common structure is idle; or the place is no leaf that this value suits; or a number is
-- beyond its range.
pub data RefusesValue (program : Program) (s : State) (at : Spot) (value : Given) : Why → Type 0 where
  idle : IsIdlePointer program s at → RefusesValue program s at value Inactive
  not_suited : ¬ IsIdlePointer program s at → ¬ IsSuited program s at value → RefusesValue program s at value WrongType
  beyond : {t : Typed} → ¬ IsIdlePointer program s at → IsSuited program s at value → standing_at program s.heap.graph at ≡ Some (Value t) → IsBeyond t.type value
      → RefusesValue program s at value OutOfRange
