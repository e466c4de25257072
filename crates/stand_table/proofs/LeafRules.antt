-- The rules of leaves, where the type of a value is known by an equation.
use Rattle.std.proofs.Common.{◌≡◌, ℕ, ◌*◌, true, false, IsTrue, List, [], ◌∷◌, map, Option, Some, None, ap, sym, subst, ◌∙◌}
use Rattle.std.specs.Prelude.{ℤ, slice_get}
use Rattle.gt_types.specs.declared.expressions.Expr.{Expr}
use Rattle.gt_types.specs.declared.types.TypeId.{TypeId}
use Rattle.gt_types.specs.declared.types.Scalar.{Scalar}
use Rattle.gt_types.specs.declared.types.Ty.{Ty, out-Ty}
use Rattle.gt_types.specs.declared.types.Ty.TheVariants as ty
use Rattle.gt_types.specs.declared.types.Ty.TheVariants.{outs-Arr, outs-Tail}
use Rattle.gt_types.specs.declared.types.Ty.TheOpen as part
use Rattle.gt_types.specs.declared.program.Field.{Field}
use Rattle.gt_types.specs.declared.program.Structure.{Structure}
use Rattle.gt_types.specs.Contains.{HasStructure}
use Rattle.gt_types.specs.Shapes.{is_pointer}
use Rattle.gt_types.specs.Unions.{IsCommon}
use Rattle.gt_layout.specs.declared.planes.Plane.{Plane}
use Rattle.gt_layout.specs.Storages.{bytes_of}
use Rattle.gt_tree.specs.Trees.{Tree, Num, Raw, Rec, Alt, Row, End}
use Rattle.gt_tree.specs.Leaves as tree
use Rattle.gt_tree.specs.Leaves.{HasLeaves, Number, Pointer, leaf, byte_leaves}
use Rattle.gt_value.specs.declared.values.Value.{Value}
use Rattle.gt_value.specs.Values.{trees, tree_of}
use Rattle.value_notation.specs.declared.samples.Sample.{Sample}
use Rattle.stand_table.specs.declared.leaves.Leaf.{Leaf}
use Rattle.stand_table.specs.Leaves.{leaf_of, leaves_in}
use Rattle.stand_table.specs.Walks.{AreLeaves, AreOfFields, AreOfElements, AreOfCommon, pointer_tree}

single : (leaves : List Leaf) (l : Leaf) (x : tree.Leaf) → leaves ≡ l ∷ [] → leaf_of l ≡ x → leaves_in leaves ≡ x ∷ []
single leaves l x is made = ap leaves_in is ∙ ap (λ y. y ∷ []) made

module _ (on : Sample) (at : ℕ) (type : Ty) (leaves : List Leaf) where
  -- leaves of a value of a type that is this one
  abbrev Has : Ty → Tree → List tree.Leaf → Type 0
  Has t value ls = HasLeaves on.program on.layouts.structures at t value ls

  pub number-rule : (scalar : Scalar) (n : ℤ) (l : Leaf) → type ≡ ty.Num scalar → leaf_of l ≡ leaf at (8 * bytes_of scalar) (Number n) → leaves ≡ l ∷ [] → AreLeaves on at type (Num n) leaves
  number-rule scalar n l e made is =
      subst (λ t. Has t (Num n) (leaves_in leaves)) (sym e) (subst (Has (ty.Num scalar) (Num n)) (sym (single leaves l (leaf at (8 * bytes_of scalar) (Number n)) is made)) HasLeaves.number)

  pub bits-rule : (unit : Scalar) (width : ℕ) (n : ℤ) (l : Leaf) → type ≡ ty.Bits unit width → leaf_of l ≡ leaf at width (Number n) → leaves ≡ l ∷ [] → AreLeaves on at type (Num n) leaves
  bits-rule unit width n l e made is =
      subst (λ t. Has t (Num n) (leaves_in leaves)) (sym e) (subst (Has (ty.Bits unit width) (Num n)) (sym (single leaves l (leaf at width (Number n)) is made)) HasLeaves.bits)

  pub pointer-rule : (name : Option ℕ) (l : Leaf) → IsTrue (is_pointer type) → leaf_of l ≡ leaf at 64 (Pointer name) → leaves ≡ l ∷ [] → AreLeaves on at type (pointer_tree name) leaves
  pointer-rule None l p made is = subst (Has type (pointer_tree None)) (sym (single leaves l (leaf at 64 (Pointer None)) is made)) (HasLeaves.null p)
  pointer-rule (Some id) l p made is = subst (Has type (pointer_tree (Some id))) (sym (single leaves l (leaf at 64 (Pointer (Some id))) is made)) (HasLeaves.to p)

  pub opaque-rule : (size align : ℕ) (bytes : List ℕ) → type ≡ ty.Opaque size align → leaves_in leaves ≡ byte_leaves at bytes → AreLeaves on at type (Raw bytes) leaves
  opaque-rule size align bytes e is = subst (λ t. Has t (Raw bytes) (leaves_in leaves)) (sym e) (subst (Has (ty.Opaque size align) (Raw bytes)) (sym is) HasLeaves.opaque)

  -- ---- structures

  module _ (node : TypeId) (desc : Option Expr) (s : Structure) (e : type ≡ ty.Node node desc) (has : HasStructure on.program node s) where
    pub struct-rule : (plane : Plane) (parts : List Value) → s.is_union ≡ false → slice_get on.layouts.structures node.0 ≡ Some plane → AreOfFields on at s.fields plane.fields parts leaves
        → AreLeaves on at type (Rec (trees (map tree_of parts))) leaves
    struct-rule plane parts struct got are = subst (λ t. Has t (Rec (trees (map tree_of parts))) (leaves_in leaves)) (sym e) (HasLeaves.struct has struct got are)

    pub member-rule : (place : ℕ) (f : Field) (value : Tree) → s.is_union ≡ true → slice_get s.fields place ≡ Some f → AreLeaves on at f.ty value leaves
        → AreLeaves on at type (Alt (Some place) value) leaves
    member-rule place f value union got are = subst (λ t. Has t (Alt (Some place) value) (leaves_in leaves)) (sym e) (HasLeaves.member has union got are)

    pub common-rule : (common : TypeId) (value : Tree) → s.is_union ≡ true → IsCommon on.program s common → AreOfCommon on at common value leaves → AreLeaves on at type (Alt None value) leaves
    common-rule common value union is are =
        subst (λ t. Has t (Alt None value) (leaves_in leaves)) (sym e) (subst (Has (ty.Node node desc) (Alt None value)) (sym are.numbers) (HasLeaves.common has union is are.of_value))

    pub nothing-rule : (value : Tree) → s.is_union ≡ true → ((common : TypeId) → ¬ IsCommon on.program s common) → (value ≡ Rec End) × (leaves ≡ []) → AreLeaves on at type (Alt None value) leaves
    nothing-rule value union none are =
        subst (λ t. Has t (Alt None value) (leaves_in leaves)) (sym e)
        (subst (λ v. Has (ty.Node node desc) (Alt None v) (leaves_in leaves)) (sym are.0) (subst (λ ls. Has (ty.Node node desc) (Alt None (Rec End)) (leaves_in ls)) (sym are.1) (HasLeaves.nothing has union none)))

  -- ---- arrays

  module _ (elem held : Ty) (parts : List Value) (same : elem ≡ held) (are : AreOfElements on at elem parts leaves) where
    pub array-rule : (n : ℕ) → type ≡ ty.Arr n held → AreLeaves on at type (Row (trees (map tree_of parts))) leaves
    array-rule n e = let is : out-Ty type ≡ part.Arr n elem = ap out-Ty e ∙ outs-Arr n held ∙ ap (part.Arr n) (sym same) in HasLeaves.array is are

    pub tail-rule : (length : Expr) → type ≡ ty.Tail length held → AreLeaves on at type (Row (trees (map tree_of parts))) leaves
    tail-rule length e = let is : out-Ty type ≡ part.Tail length elem = ap out-Ty e ∙ outs-Tail length held ∙ ap (part.Tail length) (sym same) in HasLeaves.tail is are
