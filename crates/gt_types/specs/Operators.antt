-- Which operators have one operand, and which have two.
use Rattle.std.specs.Prelude.{Bool, true, false, not, ◌&&◌, IsTrue}
use Rattle.gt_types.specs.declared.expressions.Expr.{Expr}
use Rattle.gt_types.specs.declared.expressions.Expr.TheOpen.{Expr-F, Int, Path, Root, One, Two, Cond}
use Rattle.gt_types.specs.declared.expressions.Expr.TheFolds.{fold-Expr}
use Rattle.gt_types.specs.declared.expressions.Op.{Op}
use Rattle.gt_types.specs.declared.expressions.Op.TheVariants.{Neg, Not}

-- `-` of one operand and `!`
abbrev pub has_one_operand : Op → Bool
has_one_operand Neg = true
has_one_operand Not = true
has_one_operand _ = false

-- one part of an expression, by whether its operands are as they should be
abbrev pub operators_step : Expr-F Bool → Bool
operators_step (Int n) = true
operators_step (Path base steps) = true
operators_step (Root i) = true
operators_step (One op a) = has_one_operand op && a
operators_step (Two op a b) = not (has_one_operand op) && a && b
operators_step (Cond test a b) = test && a && b

-- each operator of an expression has as many operands as it takes
abbrev pub HasOperators : Expr → Type 0
HasOperators e = IsTrue (fold-Expr Bool operators_step e)
