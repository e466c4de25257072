-- Where in a value the numbers lie that expressions read.
use Rattle.std.specs.Prelude.{◌≡◌, ℕ, ◌+◌, ◌*◌, Bool, false, IsTrue, ℤ, List, [], ◌∷◌, Option, Some, None, slice_get, All, Contains}
use Rattle.gt_types.specs.declared.expressions.Expr.{Expr}
use Rattle.gt_types.specs.declared.types.TypeId.{TypeId}
use Rattle.gt_types.specs.declared.types.Ty.{Ty}
use Rattle.gt_types.specs.declared.types.Ty.TheVariants as ty
use Rattle.gt_types.specs.declared.program.Field.{Field}
use Rattle.gt_types.specs.declared.program.Structure.{Structure}
use Rattle.gt_types.specs.declared.program.Program.{Program}
use Rattle.gt_types.specs.Shapes.{bits_of}
use Rattle.gt_types.specs.Contains.{HasStructure}
use Rattle.gt_types.specs.Paths.{Way, paths_of, LeadsToNumber}
use Rattle.gt_types.specs.Values.{within_i64}
use Rattle.gt_layout.specs.declared.planes.Plane.{Plane}
use Rattle.gt_layout.specs.declared.planes.Layouts.{Layouts}
use Rattle.gt_layout.specs.declared.planes.FieldSpot.{FieldSpot}
use Rattle.gt_layout.specs.Storages.{bytes_of}
use Rattle.gt_layout.specs.Places.{begin_at}
use Rattle.gt_tree.specs.Trees.{Tree}
use Rattle.gt_tree.specs.Numbers.{is_signed, has_room, two's_complement}
use Rattle.gt_tree.specs.Blocks.{Blocks}
use Rattle.gt_tree.specs.Scopes.{Held, Scope, base_of, read_path, eval_in}
use Rattle.gt_tree.specs.Fits.{Fits}
use Rattle.gt_tree.specs.Leaves.{Leaf, leaf, Number, HasLeaves}

-- ---- the bit of a path

-- the bit at which the field of a name lies in its structure, and its type: the members of a union all begin at 0
pub record StepBit (program : Program) (planes : List Plane) (node : TypeId) (name : List ℕ) (bit : ℕ) (type : Ty) : Type 0 where
  pub s : Structure
  pub f : Field
  pub place : ℕ
  pub plane : Plane
  pub spot : FieldSpot
  pub has : HasStructure program node s
  pub field : slice_get s.fields place ≡ Some f
  pub named : f.name ≡ name
  pub laid : slice_get planes node.0 ≡ Some plane
  pub spot_of : slice_get plane.fields place ≡ Some spot
  pub begins : bit ≡ begin_at spot
  pub is_type : type ≡ f.ty

-- the bit to which a path of names leads from the begin of a structure, and the type there
pub data PathBit (program : Program) (planes : List Plane) : TypeId → List (List ℕ) → ℕ → Ty → Type 0 where
  last_bit : {node : TypeId} {name : List ℕ} {bit : ℕ} {type : Ty} → StepBit program planes node name bit type → PathBit program planes node (name ∷ []) bit type
  next_bit : {node next : TypeId} {name : List ℕ} {names : List (List ℕ)} {bit rest : ℕ} {desc : Option Expr} {type : Ty} → StepBit program planes node name bit (ty.Node next desc)
      → PathBit program planes next names rest type → PathBit program planes node (name ∷ names) (bit + rest) type

-- a path leads to one bit and one type
abbrev pub PathsAreOne : Program → List Plane → Type 0
PathsAreOne program planes = (node : TypeId) (steps : List (List ℕ)) (bit other : ℕ) (type like : Ty) → PathBit program planes node steps bit type → PathBit program planes node steps other like
    → (bit ≡ other) × (type ≡ like)

-- ---- the number there

-- the bits of a number of a type
abbrev pub number_width : Ty → ℕ
number_width (ty.Num scalar) = 8 * bytes_of scalar
number_width (ty.Bits unit width) = width
number_width type = 0

-- whether a number has room in a type
abbrev pub has_room_in : Ty → ℤ → Bool
has_room_in (ty.Num scalar) n = has_room (is_signed scalar) (bits_of scalar) n
has_room_in (ty.Bits unit width) n = has_room (is_signed unit) width n
has_room_in type n = false

-- what a path reads from a value is the number of a leaf, which lies at the path's bit
pub record ReadsLeaf (program : Program) (planes : List Plane) (node : TypeId) (steps : List (List ℕ)) (value : Tree) (at : ℕ) (leaves : List Leaf) : Type 0 where
  pub bit : ℕ
  pub type : Ty
  pub n : ℤ
  pub path : PathBit program planes node steps bit type
  pub there : Contains leaves (leaf (at + bit) (number_width type) (Number n))
  pub room : IsTrue (has_room_in type n)
  pub read : read_path program steps (ty.Node node None) value ≡ within_i64 n

-- a path that leads to a number reads a leaf of each value that fits
abbrev pub PathsReadLeaves : Program → Layouts → Type 0
PathsReadLeaves program layouts = (blocks : Blocks) (capacity : ℕ) (scope : Scope) (node : TypeId) (desc : Option Expr) (value : Tree) (at : ℕ) (leaves : List Leaf) (steps : List (List ℕ))
    → Fits program blocks capacity scope (ty.Node node desc) value → HasLeaves program layouts.structures at (ty.Node node desc) value leaves → LeadsToNumber program node steps
    → ReadsLeaf program layouts.structures node steps value at leaves

-- ---- values with the same numbers

-- where both of two lists have a number at one place, of one width, its bits are the same in both
abbrev pub AgreeInNumbers : List Leaf → List Leaf → Type 0
AgreeInNumbers leaves others = (at width : ℕ) (n m : ℤ) → Contains leaves (leaf at width (Number n)) → Contains others (leaf at width (Number m)) → two's_complement width n ≡ two's_complement width m

-- a value of a structure that fits, and its leaves at a bit
pub record FitsWith (program : Program) (planes : List Plane) (node : TypeId) (value : Tree) (at : ℕ) (leaves : List Leaf) : Type 0 where
  pub blocks : Blocks
  pub capacity : ℕ
  pub scope : Scope
  pub desc : Option Expr
  pub fits : Fits program blocks capacity scope (ty.Node node desc) value
  pub has : HasLeaves program planes at (ty.Node node desc) value leaves

-- two values of one structure at one bit, whose leaves have the same numbers; or none twice
pub data HoldAlike (program : Program) (planes : List Plane) : Option Held → Option Held → Type 0 where
  neither : HoldAlike program planes None None
  both : {held other : Held} {at : ℕ} {leaves others : List Leaf} → held.node ≡ other.node → FitsWith program planes held.node held.value at leaves
      → FitsWith program planes other.node other.value at others → AgreeInNumbers leaves others → HoldAlike program planes (Some held) (Some other)

-- two scopes, alike in each structure and with the same roots
pub record ScopesAlike (program : Program) (planes : List Plane) (scope other : Scope) : Type 0 where
  pub here : HoldAlike program planes scope.here other.here
  pub outer : HoldAlike program planes scope.outer other.outer
  pub outermost : HoldAlike program planes scope.outermost other.outermost
  pub statics : scope.statics ≡ other.statics

-- a path leads to a number from the structure at which it begins, where there is one
abbrev pub LeadsInScope : Program → Scope → Way → Type 0
LeadsInScope program scope path = (held : Held) → base_of scope path.0 ≡ Some held → LeadsToNumber program held.node path.1

-- an expression, whose paths lead to numbers, has one value in two scopes that are alike
abbrev pub ReadingIsSame : Program → Layouts → Type 0
ReadingIsSame program layouts = (scope other : Scope) (e : Expr) → ScopesAlike program layouts.structures scope other → All (LeadsInScope program scope) (paths_of e)
    → eval_in program scope e ≡ eval_in program other e
