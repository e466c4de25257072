-- What the text of a bound, of a bit count or of an enum's constant comes to.
use Rattle.std.specs.Prelude.{ℕ, ℤ, Bool, true, false, ◌||◌, if◌then◌else◌, List, Option, Some, None, Result, Ok, Err, option_map}
use Rattle.std.specs.Option.{option_map_or}
use Rattle.gt_types.specs.declared.expressions.Expr.{Expr}
use Rattle.gt_types.specs.declared.expressions.Expr.TheVariants as expr
use Rattle.gt_types.specs.Values.{value_of}
use Rattle.gt_expr.specs.declared.raw.RawExpr.{RawExpr}
use Rattle.gt_expr.specs.declared.raw.RawExpr.TheOpen.{RawExpr-F, Int, Path, Named, One, Two, Cond}
use Rattle.gt_expr.specs.declared.raw.RawExpr.TheFolds.{fold-RawExpr}
use Rattle.gt_expr.specs.Expression.{expression_of}
use Rattle.gt_drafts.specs.declared.types.Amount.{Amount}
use Rattle.gt_drafts.specs.declared.types.Amount.TheVariants.{NoExpression, Undefined, NoValue, Is}

-- whether a path stands in one part of an expression, by whether one stands in its operands
abbrev pub path_step : RawExpr-F Bool → Bool
path_step (Int n) = false
path_step (Path base steps) = true
path_step (Named word) = false
path_step (One op a) = a
path_step (Two op a b) = a || b
path_step (Cond test a b) = test || a || b

-- a path stands in the expression
abbrev pub has_path : RawExpr → Bool
has_path = fold-RawExpr Bool path_step

-- a step that needs what the one before gave
infixl 10 ◌>>=◌
abbrev pub ◌>>=◌ : {A B : Type 0} → Option A → (A → Option B) → Option B
None >>= f = None
(Some x) >>= f = f x

-- one part of an expression with its names replaced by their values
abbrev pub values_step : (List ℕ → Option ℤ) → RawExpr-F (Option Expr) → Option Expr
values_step value (Int n) = Some (expr.Int n)
values_step value (Path base steps) = None
values_step value (Named word) = option_map expr.Int (value word)
values_step value (One op a) = a >>= λ x. Some (expr.One op x)
values_step value (Two op a b) = a >>= λ x. b >>= λ y. Some (expr.Two op x y)
values_step value (Cond test a b) = test >>= λ t. a >>= λ x. b >>= λ y. Some (expr.Cond t x y)

-- the expression with its names replaced by their values, or none where one has no value, or where a path stands in it
abbrev pub with_values : (List ℕ → Option ℤ) → RawExpr → Option Expr
with_values value = fold-RawExpr (Option Expr) (values_step value)

-- the value of an expression without paths and roots
abbrev pub constant_value : Expr → Option ℤ
constant_value e = value_of (λ base steps. None) (λ root. None) e

abbrev pub amount_of_value : Option Expr → Amount
amount_of_value None = Undefined
amount_of_value (Some e) = option_map_or Is (constant_value e) NoValue

abbrev pub amount_of_tree : (List ℕ → Option ℤ) → RawExpr → Amount
amount_of_tree value tree = if has_path tree then NoExpression else amount_of_value (with_values value tree)

abbrev pub amount_of_reading : (List ℕ → Option ℤ) → Result RawExpr ℕ → Amount
amount_of_reading value (Ok tree) = amount_of_tree value tree
amount_of_reading value (Err number) = NoExpression

-- what a text comes to, where these are the values of names
unfoldable pub amount_of : (List ℕ → Option ℤ) → List ℕ → Amount
amount_of value text = amount_of_reading value (expression_of text)
