-- Which values fit a type.
use Rattle.std.specs.Prelude.{◌≡◌, ◌≤◌, ◌<◌, ℕ, Bool, true, false, IsTrue, ℤ, pos, List, [], ◌∷◌, ◌++◌, Option, Some, None, length, map, slice_get, All}
use Rattle.gt_types.specs.declared.expressions.Expr.{Expr}
use Rattle.gt_types.specs.declared.types.TypeId.{TypeId}
use Rattle.gt_types.specs.declared.types.Scalar.{Scalar}
use Rattle.gt_types.specs.declared.types.Ty.{Ty, out-Ty}
use Rattle.gt_types.specs.declared.types.Ty.TheOpen as part
use Rattle.gt_types.specs.declared.types.Ty.TheVariants as ty
use Rattle.gt_types.specs.declared.program.Field.{Field}
use Rattle.gt_types.specs.declared.program.Structure.{Structure}
use Rattle.gt_types.specs.declared.program.Root.{Root}
use Rattle.gt_types.specs.declared.program.Program.{Program}
use Rattle.gt_types.specs.Shapes.{bits_of, is_pointer}
use Rattle.gt_types.specs.Contains.{HasStructure}
use Rattle.gt_types.specs.Unions.{IsCommon}
pub use Rattle.gt_unions.specs.Members.{is_tag, is_default, first_place, active_member}
use Rattle.gt_tree.specs.Trees.{Tree, Num, Null, To, Raw, Rec, Alt, Row, Trees, End, And, count, without_pointers, IsZero, AreZero, edges}
use Rattle.gt_tree.specs.Numbers.{is_signed, has_room}
use Rattle.gt_tree.specs.Blocks.{Kind, Chars, Blocks, MayName, element_type}
use Rattle.gt_tree.specs.Scopes.{Scope, outside, inside, eval_in}

-- ---- the active member of a union

abbrev pub desc_value : Program → Scope → Option Expr → Option ℤ
desc_value program scope (Some desc) = eval_in program scope desc
desc_value program scope None = None

-- which member is active in this value of a union
abbrev pub IsActive : Program → Scope → TypeId → Option Expr → Structure → Tree → Option ℕ → Type 0
IsActive program scope node desc s tree member = active_member (desc_value program (inside scope node tree) desc) s.fields ≡ member

-- ---- values of a type

-- the types of fields
abbrev pub types_of : List Field → List Ty
types_of fields = map (λ f. f.ty) fields

mutual
  -- A value fits a type at a capacity, which is how many elements have room at its end.
  --   A number has room in the bits of its type, and opaque bytes are as many as their type says.
  --   A pointer is null or names a block that it may.
  --   A struct has a value of each field.
  --   A union has a value of its active member. Where none is active, it has the value of its common structure, with null
  --   pointers, or where it has no common structure nothing.
  --   An array has as many elements as its type says, one at a structure's end as many as its length says, and at most as
  --   many as there is room for.
  pub data Fits (program : Program) (blocks : Blocks) (capacity : ℕ) : Scope → Ty → Tree → Type 0 where
    number : {scope : Scope} {scalar : Scalar} {n : ℤ} → IsTrue (has_room (is_signed scalar) (bits_of scalar) n) → Fits program blocks capacity scope (ty.Num scalar) (Num n)
    bits : {scope : Scope} {unit : Scalar} {width : ℕ} {n : ℤ} → IsTrue (has_room (is_signed unit) width n) → Fits program blocks capacity scope (ty.Bits unit width) (Num n)
    opaque : {scope : Scope} {size align : ℕ} {bytes : List ℕ} → length bytes ≡ size → All (λ byte. byte < 256) bytes → Fits program blocks capacity scope (ty.Opaque size align) (Raw bytes)
    null : {scope : Scope} {type : Ty} → IsTrue (is_pointer type) → Fits program blocks capacity scope type Null
    to : {scope : Scope} {type : Ty} {id : ℕ} → MayName blocks (eval_in program scope) type id → Fits program blocks capacity scope type (To id)
    struct : {scope : Scope} {node : TypeId} {desc : Option Expr} {s : Structure} {trees : Trees} → HasStructure program node s → s.is_union ≡ false
        → AllFit program blocks capacity (inside scope node (Rec trees)) (types_of s.fields) trees → Fits program blocks capacity scope (ty.Node node desc) (Rec trees)
    member : {scope : Scope} {node : TypeId} {desc : Option Expr} {s : Structure} {place : ℕ} {f : Field} {tree : Tree} → HasStructure program node s → s.is_union ≡ true
        → IsActive program scope node desc s (Alt (Some place) tree) (Some place) → slice_get s.fields place ≡ Some f
        → Fits program blocks capacity (inside scope node (Alt (Some place) tree)) f.ty tree → Fits program blocks capacity scope (ty.Node node desc) (Alt (Some place) tree)
    common : {scope : Scope} {node common : TypeId} {desc : Option Expr} {s : Structure} {tree : Tree} → HasStructure program node s → s.is_union ≡ true
        → IsActive program scope node desc s (Alt None tree) None → IsCommon program s common → without_pointers tree ≡ tree
        → Fits program blocks capacity (inside scope node (Alt None tree)) (ty.Node common None) tree → Fits program blocks capacity scope (ty.Node node desc) (Alt None tree)
    nothing : {scope : Scope} {node : TypeId} {desc : Option Expr} {s : Structure} → HasStructure program node s → s.is_union ≡ true
        → IsActive program scope node desc s (Alt None (Rec End)) None → ((common : TypeId) → ¬ IsCommon program s common)
        → Fits program blocks capacity scope (ty.Node node desc) (Alt None (Rec End))
    array : {scope : Scope} {type elem : Ty} {n : ℕ} {trees : Trees} → out-Ty type ≡ part.Arr n elem → count trees ≡ n
        → EachFits program blocks capacity scope elem trees → Fits program blocks capacity scope type (Row trees)
    tail : {scope : Scope} {type elem : Ty} {length : Expr} {n : ℕ} {trees : Trees} → out-Ty type ≡ part.Tail length elem → eval_in program scope length ≡ Some (pos n)
        → n ≤ capacity → count trees ≡ n → EachFits program blocks capacity scope elem trees → Fits program blocks capacity scope type (Row trees)

  -- values fit these types, one after another
  pub data AllFit (program : Program) (blocks : Blocks) (capacity : ℕ) : Scope → List Ty → Trees → Type 0 where
    none : {scope : Scope} → AllFit program blocks capacity scope [] End
    more : {scope : Scope} {type : Ty} {types : List Ty} {tree : Tree} {trees : Trees} → Fits program blocks capacity scope type tree
        → AllFit program blocks capacity scope types trees → AllFit program blocks capacity scope (type ∷ types) (And tree trees)

  -- each value fits the type
  pub data EachFits (program : Program) (blocks : Blocks) (capacity : ℕ) : Scope → Ty → Trees → Type 0 where
    no_more : {scope : Scope} {type : Ty} → EachFits program blocks capacity scope type End
    one_more : {scope : Scope} {type : Ty} {tree : Tree} {trees : Trees} → Fits program blocks capacity scope type tree
        → EachFits program blocks capacity scope type trees → EachFits program blocks capacity scope type (And tree trees)

-- ---- blocks and the static record

-- the last of values is the number 0
abbrev pub EndsInZero : Trees → Type 0
EndsInZero End = ⊥
EndsInZero (And tree End) = tree ≡ Num (pos 0)
EndsInZero (And tree (And next trees)) = EndsInZero (And next trees)

abbrev pub EndsAs : Kind → Trees → Type 0
EndsAs Chars trees = EndsInZero trees
EndsAs kind trees = Unit {0}

-- the value of a block is a row of as many values of its type; the last character is zero
pub record BlockFits (program : Program) (blocks : Blocks) (statics : Trees) (kind : Kind) (n capacity : ℕ) (value : Tree) : Type 0 where
  pub trees : Trees
  pub row : value ≡ Row trees
  pub as_many : count trees ≡ n
  pub each : EachFits program blocks capacity (outside statics) (element_type program kind) trees
  pub ends : EndsAs kind trees

-- the types of the roots
abbrev pub root_types : Program → List Ty
root_types program = map (λ r. r.ty) program.roots

-- the static record has a value of each root
abbrev pub StaticsFit : Program → Blocks → Trees → Type 0
StaticsFit program blocks statics = AllFit program blocks 0 (outside statics) (root_types program) statics

-- ---- zero

-- the zero value of a type at a capacity: it fits, and each of its leaves is 0, null or zero bytes
pub record IsZeroOf (program : Program) (blocks : Blocks) (statics : Trees) (capacity : ℕ) (type : Ty) (tree : Tree) : Type 0 where
  pub fits : Fits program blocks capacity (outside statics) type tree
  pub zero : IsZero tree

-- the zero value of the static record
pub record IsZeroRecord (program : Program) (blocks : Blocks) (statics : Trees) : Type 0 where
  pub fits : StaticsFit program blocks statics
  pub zero : AreZero statics

-- ---- edges of the static record

-- a root that a collection clears has no edges
abbrev pub edges_unless : Bool → Tree → List ℕ
edges_unless true tree = []
edges_unless false tree = edges tree

-- the edges of the static record: those of each root, but for deletable ones
abbrev pub static_edges : List Root → Trees → List ℕ
static_edges (r ∷ roots) (And tree trees) = edges_unless r.deletable tree ++ static_edges roots trees
static_edges roots trees = []
