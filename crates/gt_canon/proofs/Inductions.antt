-- Induction on expressions and on types, with a case for each variant.
use Rattle.std.proofs.Common.{ℕ, Bool, ℤ, List, Option, sym, subst}
use Rattle.gt_types.specs.declared.expressions.Base.{Base}
use Rattle.gt_types.specs.declared.expressions.Op.{Op}
use Rattle.gt_types.specs.declared.expressions.Expr.{Expr, roll-Expr}
use Rattle.gt_types.specs.declared.expressions.Expr.TheFolds.{ind-Expr, map-Expr}
use Rattle.gt_types.specs.declared.expressions.Expr.TheOpen as part
use Rattle.gt_types.specs.declared.expressions.Expr.TheOpen.{Expr-F}
use Rattle.gt_types.specs.declared.expressions.Expr.TheVariants.{Int, Path, Root, One, Two, Cond, rolls-Int, rolls-Path, rolls-Root, rolls-One, rolls-Two, rolls-Cond}
use Rattle.gt_types.specs.declared.types.TypeId.{TypeId}
use Rattle.gt_types.specs.declared.types.Scalar.{Scalar}
use Rattle.gt_types.specs.declared.types.Target.{Target}
use Rattle.gt_types.specs.declared.types.PtrKind.{PtrKind}
use Rattle.gt_types.specs.declared.types.Ty.{Ty, roll-Ty}
use Rattle.gt_types.specs.declared.types.Ty.TheFolds.{ind-Ty, map-Ty}
use Rattle.gt_types.specs.declared.types.Ty.TheOpen as layer
use Rattle.gt_types.specs.declared.types.Ty.TheOpen.{Ty-F}
use Rattle.gt_types.specs.declared.types.Ty.TheVariants as ty

-- what holds of each variant of an expression, where it holds of the parts
pub record OfExpr (P : Expr → Type 0) : Type 0 where
  pub int : (n : ℤ) → P (Int n)
  pub path : (base : Base) (steps : List (List ℕ)) → P (Path base steps)
  pub root : (i : ℕ) → P (Root i)
  pub one : (op : Op) (a : Expr) → P a → P (One op a)
  pub two : (op : Op) (a b : Expr) → P a → P b → P (Two op a b)
  pub cond : (test a b : Expr) → P test → P a → P b → P (Cond test a b)

expr_layer : (P : Expr → Type 0) → OfExpr P → (y : Expr-F ((e : Expr) × P e)) → P (roll-Expr (map-Expr ((e : Expr) × P e) Expr (λ e. e.0) y))
expr_layer P h (part.Int n) = subst P (sym (rolls-Int n)) (h.int n)
expr_layer P h (part.Path base steps) = subst P (sym (rolls-Path base steps)) (h.path base steps)
expr_layer P h (part.Root i) = subst P (sym (rolls-Root i)) (h.root i)
expr_layer P h (part.One op a) = subst P (sym (rolls-One op a.0)) (h.one op a.0 a.1)
expr_layer P h (part.Two op a b) = subst P (sym (rolls-Two op a.0 b.0)) (h.two op a.0 b.0 a.1 b.1)
expr_layer P h (part.Cond t a b) = subst P (sym (rolls-Cond t.0 a.0 b.0)) (h.cond t.0 a.0 b.0 t.1 a.1 b.1)

pub each_expr : (P : Expr → Type 0) → OfExpr P → (e : Expr) → P e
each_expr P h = ind-Expr P (λ x y is. subst (λ z. P (roll-Expr z)) is (expr_layer P h y))

-- what holds of each variant of a type, where it holds of the elements
pub record OfType (P : Ty → Type 0) : Type 0 where
  pub num : (scalar : Scalar) → P (ty.Num scalar)
  pub bits : (unit : Scalar) (count : ℕ) → P (ty.Bits unit count)
  pub opaque : (size align : ℕ) → P (ty.Opaque size align)
  pub str : (count : Option Expr) → P (ty.Str count)
  pub ptr : (target : Option Target) (kind : PtrKind) (reorder : Bool) → P (ty.Ptr target kind reorder)
  pub node : (id : TypeId) (desc : Option Expr) → P (ty.Node id desc)
  pub arr : (n : ℕ) (elem : Ty) → P elem → P (ty.Arr n elem)
  pub tail : (count : Expr) (elem : Ty) → P elem → P (ty.Tail count elem)

type_layer : (P : Ty → Type 0) → OfType P → (y : Ty-F ((t : Ty) × P t)) → P (roll-Ty (map-Ty ((t : Ty) × P t) Ty (λ t. t.0) y))
type_layer P h (layer.Num scalar) = subst P (sym (ty.rolls-Num scalar)) (h.num scalar)
type_layer P h (layer.Bits unit count) = subst P (sym (ty.rolls-Bits unit count)) (h.bits unit count)
type_layer P h (layer.Opaque size align) = subst P (sym (ty.rolls-Opaque size align)) (h.opaque size align)
type_layer P h (layer.Str count) = subst P (sym (ty.rolls-Str count)) (h.str count)
type_layer P h (layer.Ptr target kind reorder) = subst P (sym (ty.rolls-Ptr target kind reorder)) (h.ptr target kind reorder)
type_layer P h (layer.Node id desc) = subst P (sym (ty.rolls-Node id desc)) (h.node id desc)
type_layer P h (layer.Arr n elem) = subst P (sym (ty.rolls-Arr n elem.0)) (h.arr n elem.0 elem.1)
type_layer P h (layer.Tail count elem) = subst P (sym (ty.rolls-Tail count elem.0)) (h.tail count elem.0 elem.1)

pub each_type : (P : Ty → Type 0) → OfType P → (t : Ty) → P t
each_type P h = ind-Ty P (λ x y is. subst (λ z. P (roll-Ty z)) is (type_layer P h y))
