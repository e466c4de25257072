-- A type that is a structure.
use Rattle.std.proofs.Common.{◌≡◌, Option, Some, ap}
use Rattle.gt_types.specs.declared.expressions.Expr.{Expr}
use Rattle.gt_types.specs.declared.types.TypeId.{TypeId}
use Rattle.gt_types.specs.declared.types.Ty.{Ty, Arr', Tail'}
use Rattle.gt_types.specs.declared.types.Ty.TheVariants as ty
use Rattle.gt_types.specs.Contains.{itself}

pub some_is : {X : Type 0} (s t : X) → Some s ≡ Some t → s ≡ t
some_is s t e = cc

other_node : (id node : TypeId) (desc : Option Expr) → Some id ≡ Some node → (own : Option Expr) × (ty.Node id desc ≡ ty.Node node own)
other_node id node desc e = (desc, ap (λ n. ty.Node n desc) (some_is id node e))

pub itself-node : (type : Ty) (node : TypeId) → itself type ≡ Some node → (desc : Option Expr) × (type ≡ ty.Node node desc)
itself-node (ty.Node id desc) node e = other_node id node desc e
itself-node (ty.Num scalar) node e = cc
itself-node (ty.Bits unit count) node e = cc
itself-node (ty.Opaque size align) node e = cc
itself-node (ty.Str count) node e = cc
itself-node (ty.Ptr target kind reorder) node e = cc
itself-node (Arr' n shape elem) node e = cc
itself-node (Tail' count shape elem) node e = cc
