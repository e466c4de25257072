-- The paths and the roots of an expression by those of its parts.
use Rattle.std.proofs.Common.{◌≡◌, ℕ, List, [], ◌∷◌, ◌++◌, ap, sym, ◌∙◌}
use Rattle.gt_types.specs.declared.expressions.Base.{Base}
use Rattle.gt_types.specs.declared.expressions.Op.{Op}
use Rattle.gt_types.specs.declared.expressions.Expr.{Expr}
use Rattle.gt_types.specs.declared.expressions.Expr.TheFolds.{fold-roll-Expr}
use Rattle.gt_types.specs.declared.expressions.Expr.TheOpen as part
use Rattle.gt_types.specs.declared.expressions.Expr.TheVariants.{Path, Root, One, Two, Cond, rolls-Path, rolls-Root, rolls-One, rolls-Two, rolls-Cond}
use Rattle.gt_types.specs.Paths.{Way, paths_of, paths_step, roots_of, roots_step}

pub paths-path : (base : Base) (steps : List (List ℕ)) → paths_of (Path base steps) ≡ (base, steps) ∷ []
paths-path base steps = ap paths_of (sym (rolls-Path base steps)) ∙ fold-roll-Expr (List Way) paths_step (part.Path base steps)

pub paths-one : (op : Op) (a : Expr) → paths_of (One op a) ≡ paths_of a
paths-one op a = ap paths_of (sym (rolls-One op a)) ∙ fold-roll-Expr (List Way) paths_step (part.One op a)

pub paths-two : (op : Op) (a b : Expr) → paths_of (Two op a b) ≡ paths_of a ++ paths_of b
paths-two op a b = ap paths_of (sym (rolls-Two op a b)) ∙ fold-roll-Expr (List Way) paths_step (part.Two op a b)

pub paths-cond : (test a b : Expr) → paths_of (Cond test a b) ≡ paths_of test ++ paths_of a ++ paths_of b
paths-cond test a b = ap paths_of (sym (rolls-Cond test a b)) ∙ fold-roll-Expr (List Way) paths_step (part.Cond test a b)

pub roots-root : (place : ℕ) → roots_of (Root place) ≡ place ∷ []
roots-root place = ap roots_of (sym (rolls-Root place)) ∙ fold-roll-Expr (List ℕ) roots_step (part.Root place)

pub roots-one : (op : Op) (a : Expr) → roots_of (One op a) ≡ roots_of a
roots-one op a = ap roots_of (sym (rolls-One op a)) ∙ fold-roll-Expr (List ℕ) roots_step (part.One op a)

pub roots-two : (op : Op) (a b : Expr) → roots_of (Two op a b) ≡ roots_of a ++ roots_of b
roots-two op a b = ap roots_of (sym (rolls-Two op a b)) ∙ fold-roll-Expr (List ℕ) roots_step (part.Two op a b)

pub roots-cond : (test a b : Expr) → roots_of (Cond test a b) ≡ roots_of test ++ roots_of a ++ roots_of b
roots-cond test a b = ap roots_of (sym (rolls-Cond test a b)) ∙ fold-roll-Expr (List ℕ) roots_step (part.Cond test a b)
