-- No promise: zero values by their types alone, for the proofs of zero. Each expression is read as if every number were 0.
use Rattle.std.specs.Prelude.{◌≡◌, ◌≤◌, ℕ, suc, ℤ, pos, true, false, IsTrue, List, [], ◌∷◌, Option, Some, None, slice_get, replicate}
use Rattle.gt_types.specs.declared.expressions.Expr.{Expr}
use Rattle.gt_types.specs.declared.types.TypeId.{TypeId}
use Rattle.gt_types.specs.declared.types.Scalar.{Scalar}
use Rattle.gt_types.specs.declared.types.Ty.{Ty, out-Ty}
use Rattle.gt_types.specs.declared.types.Ty.TheOpen as part
use Rattle.gt_types.specs.declared.types.Ty.TheVariants as ty
use Rattle.gt_types.specs.declared.program.Field.{Field}
use Rattle.gt_types.specs.declared.program.Structure.{Structure}
use Rattle.gt_types.specs.declared.program.Program.{Program}
use Rattle.gt_types.specs.Values.{value_of}
use Rattle.gt_types.specs.Shapes.{is_pointer}
use Rattle.gt_types.specs.Contains.{HasStructure}
use Rattle.gt_types.specs.Unions.{IsCommon}
use Rattle.gt_tree.specs.Trees.{Tree, Num, Null, Raw, Rec, Alt, Row, Trees, End, And}
use Rattle.gt_tree.specs.Fits.{types_of, active_member}

-- the value of an expression where every number is 0
abbrev pub zero_worth : Expr → Option ℤ
zero_worth = value_of (λ base steps. Some (pos 0)) (λ i. Some (pos 0))

abbrev pub zero_desc : Option Expr → Option ℤ
zero_desc (Some desc) = zero_worth desc
zero_desc None = None

mutual
  -- the zero value of a type at a capacity
  pub data IsNought (program : Program) (capacity : ℕ) : Ty → Tree → Type 0 where
    number : {scalar : Scalar} → IsNought program capacity (ty.Num scalar) (Num (pos 0))
    bits : {unit : Scalar} {width : ℕ} → IsNought program capacity (ty.Bits unit width) (Num (pos 0))
    opaque : {size align : ℕ} {bytes : List ℕ} → bytes ≡ replicate size 0 → IsNought program capacity (ty.Opaque size align) (Raw bytes)
    null : {type : Ty} → IsTrue (is_pointer type) → IsNought program capacity type Null
    struct : {node : TypeId} {desc : Option Expr} {s : Structure} {trees : Trees} → HasStructure program node s → s.is_union ≡ false
        → AreNoughts program capacity (types_of s.fields) trees → IsNought program capacity (ty.Node node desc) (Rec trees)
    member : {node : TypeId} {desc : Option Expr} {s : Structure} {place : ℕ} {f : Field} {tree : Tree} → HasStructure program node s → s.is_union ≡ true
        → active_member (zero_desc desc) s.fields ≡ Some place → slice_get s.fields place ≡ Some f → IsNought program capacity f.ty tree
        → IsNought program capacity (ty.Node node desc) (Alt (Some place) tree)
    common : {node common : TypeId} {desc : Option Expr} {s : Structure} {tree : Tree} → HasStructure program node s → s.is_union ≡ true
        → active_member (zero_desc desc) s.fields ≡ None → IsCommon program s common → IsNought program capacity (ty.Node common None) tree
        → IsNought program capacity (ty.Node node desc) (Alt None tree)
    nothing : {node : TypeId} {desc : Option Expr} {s : Structure} → HasStructure program node s → s.is_union ≡ true
        → active_member (zero_desc desc) s.fields ≡ None → ((common : TypeId) → ¬ IsCommon program s common)
        → IsNought program capacity (ty.Node node desc) (Alt None (Rec End))
    array : {type elem : Ty} {n : ℕ} {trees : Trees} → out-Ty type ≡ part.Arr n elem → AreElements program capacity n elem trees → IsNought program capacity type (Row trees)
    tail : {type elem : Ty} {length : Expr} {n : ℕ} {trees : Trees} → out-Ty type ≡ part.Tail length elem → zero_worth length ≡ Some (pos n) → n ≤ capacity
        → AreElements program capacity n elem trees → IsNought program capacity type (Row trees)

  -- zero values of these types, one after another
  pub data AreNoughts (program : Program) (capacity : ℕ) : List Ty → Trees → Type 0 where
    none : AreNoughts program capacity [] End
    more : {type : Ty} {types : List Ty} {tree : Tree} {trees : Trees} → IsNought program capacity type tree → AreNoughts program capacity types trees
        → AreNoughts program capacity (type ∷ types) (And tree trees)

  -- so many zero values of one type
  pub data AreElements (program : Program) (capacity : ℕ) : ℕ → Ty → Trees → Type 0 where
    no_more : {type : Ty} → AreElements program capacity 0 type End
    one_more : {n : ℕ} {type : Ty} {tree : Tree} {trees : Trees} → IsNought program capacity type tree → AreElements program capacity n type trees
        → AreElements program capacity (suc n) type (And tree trees)
