-- What a value that fits a type says of its parts.
use Rattle.std.proofs.Common.{◌≡◌, ℕ, ◌≤◌, List, ◌∷◌, length, subst, arith, Option, Some, None}
use Rattle.std.specs.Prelude.{slice_get}
use Rattle.gt_types.specs.declared.expressions.Expr.{Expr}
use Rattle.gt_types.specs.declared.types.TypeId.{TypeId}
use Rattle.gt_types.specs.declared.types.Ty.{Ty, out-Ty}
use Rattle.gt_types.specs.declared.types.Ty.TheOpen as part
use Rattle.gt_types.specs.declared.types.Ty.TheVariants as ty
use Rattle.gt_types.specs.declared.program.Field.{Field}
use Rattle.gt_types.specs.declared.program.Structure.{Structure}
use Rattle.gt_types.specs.declared.program.Program.{Program}
use Rattle.gt_types.specs.Contains.{HasStructure}
use Rattle.gt_types.specs.Unions.{IsCommon}
use Rattle.gt_types.specs.Settled.{Settled}
use Rattle.gt_tree.specs.Trees.{Tree, Raw, Rec, Alt, Row, Trees, And, count}
use Rattle.gt_tree.specs.Blocks.{Blocks}
use Rattle.gt_tree.specs.Scopes.{Scope, inside}
use Rattle.gt_tree.specs.Fits.{Fits, AllFit, EachFits, types_of}
use Rattle.gt_tree.proofs.Commons.{one-common}

module _ {program : Program} {blocks : Blocks} {capacity : ℕ} {scope : Scope} where
  pub fits-opaque : (size align : ℕ) (bytes : List ℕ) → Fits program blocks capacity scope (ty.Opaque size align) (Raw bytes) → length bytes ≡ size
  fits-opaque size align bytes (Fits.opaque e all) = e

  pub fits-struct : (node : TypeId) (desc : Option Expr) (s : Structure) (trees : Trees) → HasStructure program node s → Fits program blocks capacity scope (ty.Node node desc) (Rec trees)
      → AllFit program blocks capacity (inside scope node (Rec trees)) (types_of s.fields) trees
  fits-struct node desc s trees has (Fits.struct {s = other} h u all) =
      let same : other ≡ s = cc in
      subst (λ x. AllFit program blocks capacity (inside scope node (Rec trees)) (types_of x.fields) trees) same all

  pub fits-member : (node : TypeId) (desc : Option Expr) (s : Structure) (place : ℕ) (f : Field) (tree : Tree) → HasStructure program node s → slice_get s.fields place ≡ Some f
      → Fits program blocks capacity scope (ty.Node node desc) (Alt (Some place) tree) → Fits program blocks capacity (inside scope node (Alt (Some place) tree)) f.ty tree
  fits-member node desc s place f tree has get (Fits.member {s = other} {f = g} h u active got fits) =
      let same : other ≡ s = cc in
      let there : slice_get s.fields place ≡ Some g = subst (λ x. slice_get x.fields place ≡ Some g) same got in
      let equal : g ≡ f = cc in
      subst (λ x. Fits program blocks capacity (inside scope node (Alt (Some place) tree)) x.ty tree) equal fits

  pub fits-common : (node common : TypeId) (desc : Option Expr) (s : Structure) (tree : Tree) → Settled program → HasStructure program node s → IsCommon program s common
      → Fits program blocks capacity scope (ty.Node node desc) (Alt None tree) → Fits program blocks capacity (inside scope node (Alt None tree)) (ty.Node common None) tree
  fits-common node common desc s tree settled has c (Fits.common {common = other} {s = same_s} h u active o w fits) =
      let same : same_s ≡ s = cc in
      let there : IsCommon program s other = subst (λ x. IsCommon program x other) same o in
      subst (λ n. Fits program blocks capacity (inside scope node (Alt None tree)) (ty.Node n None) tree) (one-common program node s other common settled has there c) fits
  fits-common node common desc s tree settled has c (Fits.nothing {s = same_s} h u active none) =
      let same : s ≡ same_s = cc in
      absurd (none common (subst (λ x. IsCommon program x common) same c))

  pub fits-array : (type elem : Ty) (n : ℕ) (trees : Trees) → out-Ty type ≡ part.Arr n elem → Fits program blocks capacity scope type (Row trees)
      → (count trees ≡ n) × EachFits program blocks capacity scope elem trees
  fits-array type elem n trees e (Fits.array {elem = other} {n = m} o c each) =
      let same : other ≡ elem = cc in
      let as_many : count trees ≡ n = cc in
      (as_many, subst (λ t. EachFits program blocks capacity scope t trees) same each)
  fits-array type elem n trees e (Fits.tail o v le c each) = absurd (cc)

  pub fits-tail : (type elem : Ty) (long : Expr) (trees : Trees) → out-Ty type ≡ part.Tail long elem → Fits program blocks capacity scope type (Row trees)
      → (count trees ≤ capacity) × EachFits program blocks capacity scope elem trees
  fits-tail type elem long trees e (Fits.array o c each) = absurd (cc)
  fits-tail type elem long trees e (Fits.tail {elem = other} o v le c each) =
      let same : other ≡ elem = cc in
      (omega arith, subst (λ t. EachFits program blocks capacity scope t trees) same each)

  pub fits-more : (type : Ty) (types : List Ty) (tree : Tree) (trees : Trees) → AllFit program blocks capacity scope (type ∷ types) (And tree trees)
      → Fits program blocks capacity scope type tree × AllFit program blocks capacity scope types trees
  fits-more type types tree trees (AllFit.more fits all) = (fits, all)

  pub fits-one : (type : Ty) (tree : Tree) (trees : Trees) → EachFits program blocks capacity scope type (And tree trees)
      → Fits program blocks capacity scope type tree × EachFits program blocks capacity scope type trees
  fits-one type tree trees (EachFits.one_more fits each) = (fits, each)
