-- A value fits where its layer does.
use Rattle.std.proofs.Common.{◌≡◌, ◌≢◌, ℕ, ◌≤◌, Bool, true, false, IsTrue, ℤ, pos, List, ◌↔◌, refl, ap, sym, subst, ◌∙◌, Option, Some, None, length, map}
use Rattle.std.specs.Prelude.{slice_get}
use Rattle.gt_types.specs.declared.expressions.Expr.{Expr}
use Rattle.gt_types.specs.declared.types.TypeId.{TypeId}
use Rattle.gt_types.specs.declared.types.Ty.{Ty, out-Ty}
use Rattle.gt_types.specs.declared.types.Ty.TheOpen as part
use Rattle.gt_types.specs.declared.types.Ty.TheOpen.{Ty-F}
use Rattle.gt_types.specs.declared.types.Ty.TheVariants as ty
use Rattle.gt_types.specs.declared.program.Field.{Field}
use Rattle.gt_types.specs.declared.program.Structure.{Structure}
use Rattle.gt_types.specs.declared.program.Program.{Program}
use Rattle.gt_types.specs.Contains.{HasStructure}
use Rattle.gt_types.specs.Settled.{Settled}
use Rattle.gt_types.specs.Shapes.{is_pointer}
use Rattle.gt_types.specs.Unions.{IsCommon}
use Rattle.gt_tree.specs.Trees.{Tree, Num, Null, To, Raw, Rec, Alt, Row, Trees, End}
use Rattle.gt_tree.specs.Blocks.{Blocks, MayName}
use Rattle.gt_tree.specs.Scopes.{Scope, inside, eval_in}
use Rattle.gt_tree.specs.Fits.{Fits, EachFits, IsActive}
use Rattle.gt_tree.specs.PathLaws.{has_room_in}
use Rattle.gt_value.specs.declared.values.Value.{Value}
use Rattle.gt_value.specs.Values.{trees, tree_of}
use Rattle.gt_tree.proofs.Commons.{one-common}
use Rattle.gt_unions.specs.Commons.{common_of}
use Rattle.gt_fit.specs.Fitting.{OpaqueFits, FieldsFit, StructFits, MemberFits, CommonFits, ThereFits, ActiveFits, UnionFits, RecFits, AltFits, RowFits}
use Rattle.gt_unions.proofs.CommonFound.{CommonIs}
use Rattle.gt_unions.proofs.CommonFound.{common-is}
use Rattle.gt_fit.proofs.PartsFit.{never}
use Rattle.gt_fit.proofs.Values.{count-trees}

-- a value fits by its form
abbrev pub LayerFits : Program → Blocks → ℕ → Scope → Ty → Tree → Type 0
LayerFits program blocks capacity scope type (Num n) = IsTrue (has_room_in type n)
LayerFits program blocks capacity scope type Null = IsTrue (is_pointer type)
LayerFits program blocks capacity scope type (To id) = MayName blocks (eval_in program scope) type id
LayerFits program blocks capacity scope type (Raw bytes) = OpaqueFits type bytes
LayerFits program blocks capacity scope type (Rec trees) = RecFits program blocks capacity scope type (Rec trees) trees
LayerFits program blocks capacity scope type (Alt member tree) = AltFits program blocks capacity scope type (Alt member tree) member tree
LayerFits program blocks capacity scope type (Row trees) = RowFits program blocks capacity scope (out-Ty type) trees

pub alike : (a b : Bool) → a ≡ b → IsTrue a ↔ IsTrue b
alike a b e = ((λ h. sym e ∙ h), (λ h. e ∙ h))

pub granted : (b : Bool) (P : Type 0) → (IsTrue b ↔ P) → b ≡ true → P
granted b P so h = so.0 (h)

pub refused : (b : Bool) (P : Type 0) → (IsTrue b ↔ P) → b ≡ false → ¬ P
refused b P so h p = let yes = so.1 p in cc

module _ (program : Program) (settled : Settled program) (blocks : Blocks) (capacity : ℕ) (scope : Scope) where
  -- ---- structs

  rec-by : (node : TypeId) (desc : Option Expr) (s : Structure) (trees : Trees) (b : Bool) → HasStructure program node s → s.is_union ≡ b
      → FieldsFit program blocks capacity (inside scope node (Rec trees)) b s.fields trees → Fits program blocks capacity scope (ty.Node node desc) (Rec trees)
  rec-by node desc s trees false has struct fit = Fits.struct has struct fit
  rec-by node desc s trees true has union fit = absurd fit

  rec-in : (node : TypeId) (desc : Option Expr) (trees : Trees) (o : Option Structure) → slice_get program.structures node.0 ≡ o
      → StructFits program blocks capacity (inside scope node (Rec trees)) o trees → Fits program blocks capacity scope (ty.Node node desc) (Rec trees)
  rec-in node desc trees (Some s) has fit = rec-by node desc s trees s.is_union has refl fit
  rec-in node desc trees None has fit = absurd fit

  rec-of : (type : Ty) (trees : Trees) → RecFits program blocks capacity scope type (Rec trees) trees → Fits program blocks capacity scope type (Rec trees)
  rec-of (ty.Node node desc) trees fit = rec-in node desc trees (slice_get program.structures node.0) refl fit
  rec-of type trees fit = absurd fit

  rec-to : (type : Ty) (trees : Trees) → Fits program blocks capacity scope type (Rec trees) → RecFits program blocks capacity scope type (Rec trees) trees
  rec-to type trees (Fits.struct {node} {s} has struct fit) =
      subst (λ o. StructFits program blocks capacity (inside scope node (Rec trees)) o trees) (sym has)
      (subst (λ b. FieldsFit program blocks capacity (inside scope node (Rec trees)) b s.fields trees) (sym struct) fit)

  -- ---- unions

  module _ (node : TypeId) (desc : Option Expr) (s : Structure) (has : HasStructure program node s) (union : s.is_union ≡ true) where
    member-in : (place : ℕ) (tree : Tree) (o : Option Field) → IsActive program scope node desc s (Alt (Some place) tree) (Some place) → slice_get s.fields place ≡ o
        → MemberFits program blocks capacity (inside scope node (Alt (Some place) tree)) o tree → Fits program blocks capacity scope (ty.Node node desc) (Alt (Some place) tree)
    member-in place tree (Some f) active got fit = Fits.member has union active got fit
    member-in place tree None active got fit = absurd fit

    nothing-in : (tree : Tree) → ((common : TypeId) → ¬ IsCommon program s common) → IsActive program scope node desc s (Alt None tree) None → tree ≡ Rec End
        → Fits program blocks capacity scope (ty.Node node desc) (Alt None tree)
    nothing-in tree none active e =
        subst (λ t. IsActive program scope node desc s (Alt None t) None → Fits program blocks capacity scope (ty.Node node desc) (Alt None t)) (sym e) (λ a. Fits.nothing has union a none) active

    common-in : (tree : Tree) (o : Option TypeId) → CommonIs program s o → IsActive program scope node desc s (Alt None tree) None
        → CommonFits program blocks capacity (inside scope node (Alt None tree)) o tree → Fits program blocks capacity scope (ty.Node node desc) (Alt None tree)
    common-in tree (Some common) is active fit = Fits.common has union active is fit.0 fit.1
    common-in tree None none active e = nothing-in tree none active e

    there-in : (member : Option ℕ) (tree : Tree) → IsActive program scope node desc s (Alt member tree) member
        → ThereFits program blocks capacity (inside scope node (Alt member tree)) s member tree → Fits program blocks capacity scope (ty.Node node desc) (Alt member tree)
    there-in (Some place) tree active fit = member-in place tree (slice_get s.fields place) active refl fit
    there-in None tree active fit = common-in tree (common_of program s) (common-is program settled node s has union) active fit

    found-is : (common : TypeId) (o : Option TypeId) → CommonIs program s o → IsCommon program s common → o ≡ Some common
    found-is common (Some other) is c = ap Some (one-common program node s other common settled has is c)
    found-is common None none c = absurd (none common c)

    found-none : (o : Option TypeId) → CommonIs program s o → ((common : TypeId) → ¬ IsCommon program s common) → o ≡ None
    found-none (Some other) is none = absurd (none other is)
    found-none None is none = refl

    alt-by : (member : Option ℕ) (tree : Tree) → IsActive program scope node desc s (Alt member tree) member → ThereFits program blocks capacity (inside scope node (Alt member tree)) s member tree
        → AltFits program blocks capacity scope (ty.Node node desc) (Alt member tree) member tree
    alt-by member tree active fit =
        subst (λ o. UnionFits program blocks capacity (inside scope node (Alt member tree)) desc o member tree) (sym has)
        (subst (λ b. ActiveFits program blocks capacity (inside scope node (Alt member tree)) desc b s member tree) (sym union) (active, fit))

  alt-mark : (node : TypeId) (desc : Option Expr) (s : Structure) (member : Option ℕ) (tree : Tree) (b : Bool) → HasStructure program node s → s.is_union ≡ b
      → ActiveFits program blocks capacity (inside scope node (Alt member tree)) desc b s member tree → Fits program blocks capacity scope (ty.Node node desc) (Alt member tree)
  alt-mark node desc s member tree true has union fit = there-in node desc s has union member tree fit.0 fit.1
  alt-mark node desc s member tree false has struct fit = absurd fit

  alt-in : (node : TypeId) (desc : Option Expr) (member : Option ℕ) (tree : Tree) (o : Option Structure) → slice_get program.structures node.0 ≡ o
      → UnionFits program blocks capacity (inside scope node (Alt member tree)) desc o member tree → Fits program blocks capacity scope (ty.Node node desc) (Alt member tree)
  alt-in node desc member tree (Some s) has fit = alt-mark node desc s member tree s.is_union has refl fit
  alt-in node desc member tree None has fit = absurd fit

  alt-of : (type : Ty) (member : Option ℕ) (tree : Tree) → AltFits program blocks capacity scope type (Alt member tree) member tree → Fits program blocks capacity scope type (Alt member tree)
  alt-of (ty.Node node desc) member tree fit = alt-in node desc member tree (slice_get program.structures node.0) refl fit
  alt-of type member tree fit = absurd fit

  alt-to : (type : Ty) (member : Option ℕ) (tree : Tree) → Fits program blocks capacity scope type (Alt member tree) → AltFits program blocks capacity scope type (Alt member tree) member tree
  alt-to type member tree (Fits.member {node} {desc} {s} {place} has union active got fit) =
      alt-by node desc s has union (Some place) tree active (subst (λ o. MemberFits program blocks capacity (inside scope node (Alt (Some place) tree)) o tree) (sym got) fit)
  alt-to type member tree (Fits.common {node} {common} {desc} {s} has union active is w fit) =
      alt-by node desc s has union None tree active
      (subst (λ o. CommonFits program blocks capacity (inside scope node (Alt None tree)) o tree) (sym (found-is node desc s has union common (common_of program s) (common-is program settled node s has union) is)) (w, fit))
  alt-to type member tree (Fits.nothing {node} {desc} {s} has union active none) =
      alt-by node desc s has union None (Rec End) active
      (subst (λ o. CommonFits program blocks capacity (inside scope node (Alt None (Rec End))) o (Rec End)) (sym (found-none node desc s has union (common_of program s) (common-is program settled node s has union) none)) refl)

  -- ---- arrays

  row-of : (type : Ty) (trees : Trees) (layer : Ty-F Ty) → out-Ty type ≡ layer → RowFits program blocks capacity scope layer trees → Fits program blocks capacity scope type (Row trees)
  row-of type trees (part.Arr n elem) e fit = Fits.array e fit.0 fit.1
  row-of type trees (part.Tail len elem) e fit = Fits.tail e fit.0 fit.1 refl fit.2
  row-of type trees layer e fit = absurd fit

  row-to : (type : Ty) (trees : Trees) → Fits program blocks capacity scope type (Row trees) → RowFits program blocks capacity scope (out-Ty type) trees
  row-to type trees (Fits.array e c each) = subst (λ l. RowFits program blocks capacity scope l trees) (sym e) (c, each)
  row-to type trees (Fits.tail e v le c each) =
      subst (λ l. RowFits program blocks capacity scope l trees) (sym e) (v ∙ ap (λ k. Some (pos k)) (sym c), subst (λ k. k ≤ capacity) (sym c) le, each)

  -- ---- leaves

  num-of : (type : Ty) (n : ℤ) → IsTrue (has_room_in type n) → Fits program blocks capacity scope type (Num n)
  num-of (ty.Num scalar) n h = Fits.number h
  num-of (ty.Bits unit width) n h = Fits.bits h
  num-of type n h = absurd (cc)

  num-to : (type : Ty) (n : ℤ) → Fits program blocks capacity scope type (Num n) → IsTrue (has_room_in type n)
  num-to type n (Fits.number h) = h
  num-to type n (Fits.bits h) = h

  null-to : (type : Ty) → Fits program blocks capacity scope type Null → IsTrue (is_pointer type)
  null-to type (Fits.null h) = h

  to-to : (type : Ty) (id : ℕ) → Fits program blocks capacity scope type (To id) → MayName blocks (eval_in program scope) type id
  to-to type id (Fits.to m) = m

  raw-of : (type : Ty) (bytes : List ℕ) → OpaqueFits type bytes → Fits program blocks capacity scope type (Raw bytes)
  raw-of (ty.Opaque size align) bytes fit = Fits.opaque fit.0 fit.1
  raw-of type bytes fit = absurd fit

  raw-to : (type : Ty) (bytes : List ℕ) → Fits program blocks capacity scope type (Raw bytes) → OpaqueFits type bytes
  raw-to type bytes (Fits.opaque long small) = (long, small)

  -- ---- a value

  layer-of : (type : Ty) (tree : Tree) → LayerFits program blocks capacity scope type tree → Fits program blocks capacity scope type tree
  layer-of type (Num n) fit = num-of type n fit
  layer-of type Null fit = Fits.null fit
  layer-of type (To id) fit = Fits.to fit
  layer-of type (Raw bytes) fit = raw-of type bytes fit
  layer-of type (Rec trees) fit = rec-of type trees fit
  layer-of type (Alt member tree) fit = alt-of type member tree fit
  layer-of type (Row trees) fit = row-of type trees (out-Ty type) refl fit

  layer-to : (type : Ty) (tree : Tree) → Fits program blocks capacity scope type tree → LayerFits program blocks capacity scope type tree
  layer-to type (Num n) fit = num-to type n fit
  layer-to type Null fit = null-to type fit
  layer-to type (To id) fit = to-to type id fit
  layer-to type (Raw bytes) fit = raw-to type bytes fit
  layer-to type (Rec trees) fit = rec-to type trees fit
  layer-to type (Alt member tree) fit = alt-to type member tree fit
  layer-to type (Row trees) fit = row-to type trees fit

  pub by-layer : (b : Bool) (type : Ty) (value tree : Tree) → value ≡ tree → (IsTrue b ↔ LayerFits program blocks capacity scope type tree) → IsTrue b ↔ Fits program blocks capacity scope type value
  by-layer b type value tree e so = subst (λ t. IsTrue b ↔ Fits program blocks capacity scope type t) (sym e) ((λ h. layer-of type tree (so.0 h)), (λ fit. so.1 (layer-to type tree fit)))

  -- ---- the elements of an array

  module _ (type : Ty) (parts : List Value) where
    pub arr-uneven : (n : ℕ) (elem : Ty) → out-Ty type ≡ part.Arr n elem → length parts ≢ n → IsTrue false ↔ RowFits program blocks capacity scope (out-Ty type) (trees (map tree_of parts))
    arr-uneven n elem e off =
        never _ (λ fit. let r = subst (λ l. RowFits program blocks capacity scope l (trees (map tree_of parts))) e fit in off (sym (count-trees parts) ∙ r.0))

    pub arr-even : (n : ℕ) (elem : Ty) (b : Bool) → out-Ty type ≡ part.Arr n elem → length parts ≡ n → (IsTrue b ↔ EachFits program blocks capacity scope elem (trees (map tree_of parts)))
        → IsTrue b ↔ RowFits program blocks capacity scope (out-Ty type) (trees (map tree_of parts))
    arr-even n elem b e even so =
        subst (λ l. IsTrue b ↔ RowFits program blocks capacity scope l (trees (map tree_of parts))) (sym e) ((λ h. (count-trees parts ∙ even, so.0 h)), (λ fit. so.1 fit.1))

    pub tail-wrong : (len : Expr) (elem : Ty) → out-Ty type ≡ part.Tail len elem → ¬ ((eval_in program scope len ≡ Some (pos (length parts))) × (length parts ≤ capacity))
        → IsTrue false ↔ RowFits program blocks capacity scope (out-Ty type) (trees (map tree_of parts))
    tail-wrong len elem e off =
        never _
        (λ fit.
        let r = subst (λ l. RowFits program blocks capacity scope l (trees (map tree_of parts))) e fit in
        off (subst (λ n. (eval_in program scope len ≡ Some (pos n)) × (n ≤ capacity)) (count-trees parts) (r.0, r.1)))

    pub tail-right : (len : Expr) (elem : Ty) (b : Bool) → out-Ty type ≡ part.Tail len elem → (eval_in program scope len ≡ Some (pos (length parts))) × (length parts ≤ capacity)
        → (IsTrue b ↔ EachFits program blocks capacity scope elem (trees (map tree_of parts))) → IsTrue b ↔ RowFits program blocks capacity scope (out-Ty type) (trees (map tree_of parts))
    tail-right len elem b e long so =
        let said = subst (λ n. (eval_in program scope len ≡ Some (pos n)) × (n ≤ capacity)) (sym (count-trees parts)) long in
        subst (λ l. IsTrue b ↔ RowFits program blocks capacity scope l (trees (map tree_of parts))) (sym e) ((λ h. (said.0, said.1, so.0 h)), (λ fit. so.1 fit.2))
