-- What becomes of a value in which one leaf was replaced. A union whose active member is now another keeps its common structure
-- and is zero elsewhere; where no member is active, the pointers of the common structure become null. A tail becomes as long as
-- its length says.
use Rattle.std.specs.Prelude.{◌≡◌, ◌≢◌, ℕ, Bool, true, false, List, [], ◌∷◌, Option, Some, None, slice_get, IsTrue}
use Rattle.gt_types.specs.declared.expressions.Expr.{Expr}
use Rattle.gt_types.specs.declared.types.TypeId.{TypeId}
use Rattle.gt_types.specs.declared.types.Ty.{Ty, out-Ty}
use Rattle.gt_types.specs.declared.types.Ty.TheOpen as part
use Rattle.gt_types.specs.declared.types.Ty.TheVariants as ty
use Rattle.gt_types.specs.declared.program.Field.{Field}
use Rattle.gt_types.specs.declared.program.Structure.{Structure}
use Rattle.gt_types.specs.declared.program.Program.{Program}
use Rattle.gt_types.specs.Contains.{HasStructure}
use Rattle.gt_types.specs.Unions.{IsCommon}
use Rattle.gt_tree.specs.Trees.{Tree, Rec, Alt, Row, Trees, End, And, IsZero, AreZero, is_leaf, is_word, part_at, with_part, without_pointers}
use Rattle.gt_tree.specs.Blocks.{Blocks}
use Rattle.gt_tree.specs.Scopes.{outside, beginning, first_type_of, is_of_node, type_there}
use Rattle.gt_tree.specs.Fits.{Fits, StaticsFit, types_of, root_types}

abbrev mutual
  -- a value is zero outside the structure with which it begins
  pub IsZeroOutside : Program → TypeId → Option Ty → Tree → Type 0
  IsZeroOutside program node type (Rec trees) = OutsideOf program node type trees (is_of_node node type)
  IsZeroOutside program node type tree = Unit {0}

  pub OutsideOf : Program → TypeId → Option Ty → Trees → Bool → Type 0
  OutsideOf program node type trees true = Unit {0}
  OutsideOf program node type End false = Unit {0}
  OutsideOf program node type (And tree trees) false = IsZeroOutside program node (first_type_of program type) tree × AreZero trees

-- what is kept of a common structure: all of it where a member is active now, else all but its pointers
abbrev pub kept : Option ℕ → Tree → Tree
kept (Some place) tree = tree
kept None tree = without_pointers tree

-- another member of a union is active: with a common structure this is kept and the rest is zero, else all is zero
pub data Changes (program : Program) (s : Structure) : Option ℕ → Tree → Option ℕ → Tree → Type 0 where
  keeps : {old_member new_member : Option ℕ} {old new old_part : Tree} {common : TypeId} → IsCommon program s common
      → beginning program common (type_there s common old_member) old ≡ Some old_part
      → beginning program common (type_there s common new_member) new ≡ Some (kept new_member old_part)
      → IsZeroOutside program common (type_there s common new_member) new → Changes program s old_member old new_member new
  clears : {old_member new_member : Option ℕ} {old new : Tree} → ((common : TypeId) → ¬ IsCommon program s common) → IsZero new
      → Changes program s old_member old new_member new

mutual
  -- the value of a type that an old one becomes, from the outside in
  pub data Reshapes (program : Program) : Ty → Tree → Tree → Type 0 where
    leaf : {type : Ty} {tree : Tree} → IsTrue (is_leaf tree) → Reshapes program type tree tree
    struct : {node : TypeId} {desc : Option Expr} {s : Structure} {old new : Trees} → HasStructure program node s → s.is_union ≡ false
        → AllReshape program (types_of s.fields) old new → Reshapes program (ty.Node node desc) (Rec old) (Rec new)
    same : {node : TypeId} {desc : Option Expr} {s : Structure} {place : ℕ} {f : Field} {old new : Tree} → HasStructure program node s → s.is_union ≡ true
        → slice_get s.fields place ≡ Some f → Reshapes program f.ty old new → Reshapes program (ty.Node node desc) (Alt (Some place) old) (Alt (Some place) new)
    same_none : {node : TypeId} {desc : Option Expr} {tree : Tree} → Reshapes program (ty.Node node desc) (Alt None tree) (Alt None (without_pointers tree))
    other : {node : TypeId} {desc : Option Expr} {s : Structure} {old_member new_member : Option ℕ} {old new : Tree} → HasStructure program node s → s.is_union ≡ true
        → old_member ≢ new_member → Changes program s old_member old new_member new → Reshapes program (ty.Node node desc) (Alt old_member old) (Alt new_member new)
    array : {type elem : Ty} {n : ℕ} {old new : Trees} → out-Ty type ≡ part.Arr n elem → EachReshapes program elem old new → Reshapes program type (Row old) (Row new)
    tail : {type elem : Ty} {len : Expr} {old new : Trees} → out-Ty type ≡ part.Tail len elem → EachReshapes program elem old new → Reshapes program type (Row old) (Row new)

  -- values of these types, one after another
  pub data AllReshape (program : Program) : List Ty → Trees → Trees → Type 0 where
    none : AllReshape program [] End End
    more : {type : Ty} {types : List Ty} {old new : Tree} {olds news : Trees} → Reshapes program type old new → AllReshape program types olds news
        → AllReshape program (type ∷ types) (And old olds) (And new news)

  -- elements, one after another; those that are lost are gone, and those that are gained are zero
  pub data EachReshapes (program : Program) : Ty → Trees → Trees → Type 0 where
    lost : {type : Ty} {olds : Trees} → EachReshapes program type olds End
    gained : {type : Ty} {news : Trees} → AreZero news → EachReshapes program type End news
    one_more : {type : Ty} {old new : Tree} {olds news : Trees} → Reshapes program type old new → EachReshapes program type olds news
        → EachReshapes program type (And old olds) (And new news)

-- a path leads to a leaf of a value that can be read and written
abbrev pub LeadsToLeaf : Tree → List ℕ → Type 0
LeadsToLeaf tree path = (part : Tree) × (part_at tree path ≡ Some part) × IsTrue (is_word part)

-- One leaf of an element of a block is written: the new value fits, and it is what the old one becomes with this leaf at the path.
-- Where no value is so, the write does not fit.
pub record Assigns (program : Program) (blocks : Blocks) (statics : Trees) (capacity : ℕ) (type : Ty) (old : Tree) (path : List ℕ) (leaf new : Tree) : Type 0 where
  pub there : LeadsToLeaf old path
  pub is_leaf : IsTrue (is_word leaf)
  pub fits : Fits program blocks capacity (outside statics) type new
  pub reshapes : Reshapes program type (with_part old path leaf) new

-- one leaf of the static record is written, in which a root may say the length of another
pub record AssignsStatics (program : Program) (blocks : Blocks) (old : Trees) (path : List ℕ) (leaf : Tree) (new : Trees) : Type 0 where
  pub there : LeadsToLeaf (Rec old) path
  pub is_leaf : IsTrue (is_word leaf)
  pub written : Trees
  pub with_leaf : with_part (Rec old) path leaf ≡ Rec written
  pub fits : StaticsFit program blocks new
  pub reshapes : AllReshape program (root_types program) written new
