-- The dimensions of arrays.
use Rattle.std.proofs.Common.{◌≡◌, ℕ, ◌+◌, ap, ◌∙◌}
use Rattle.gt_types.specs.declared.expressions.Expr.{Expr}
use Rattle.gt_types.specs.declared.types.Ty.{Ty, out-Ty}
use Rattle.gt_types.specs.declared.types.Ty.TheOpen as part
use Rattle.gt_types.specs.declared.types.Ty.TheOpen.{Ty-F}
use Rattle.gt_types.specs.declared.types.Ty.TheFolds.{fold_out-Ty, map-Ty}
use Rattle.gt_types.specs.Shapes.{dimensions, dimensions_step}

layer : (type : Ty) (x : Ty-F Ty) → out-Ty type ≡ x → dimensions type ≡ dimensions_step (map-Ty Ty ℕ dimensions x)
layer type x e = fold_out-Ty ℕ dimensions_step type ∙ ap (λ y. dimensions_step (map-Ty Ty ℕ dimensions y)) e

-- an array has one more than its elements
pub array-dimensions : (type elem : Ty) (n : ℕ) → out-Ty type ≡ part.Arr n elem → dimensions type ≡ 1 + dimensions elem
array-dimensions type elem n e = layer type (part.Arr n elem) e

pub tail-dimensions : (type elem : Ty) (length : Expr) → out-Ty type ≡ part.Tail length elem → dimensions type ≡ 1 + dimensions elem
tail-dimensions type elem length e = layer type (part.Tail length elem) e
