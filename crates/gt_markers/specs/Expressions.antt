-- The expressions of options, with their names looked up.
use Rattle.std.specs.Prelude.{ℕ, ℤ, pos, Bool, true, false, ◌&&◌, List, [], ◌∷◌, ◌++◌, Option, Some, None, option_map, find}
use Rattle.std.specs.List.{position_from}
use Rattle.std.specs.Str.{bytes_eq}
use Rattle.gt_types.specs.declared.expressions.Expr.{Expr}
use Rattle.gt_types.specs.declared.expressions.Expr.TheVariants as expr
use Rattle.gt_expr.specs.declared.raw.RawExpr.{RawExpr}
use Rattle.gt_expr.specs.declared.raw.RawExpr.TheOpen.{RawExpr-F, Int, Path, Named, One, Two, Cond}
use Rattle.gt_expr.specs.declared.raw.RawExpr.TheFolds.{fold-RawExpr}
use Rattle.gt_items.specs.declared.items.Parameter.{Parameter}
use Rattle.gt_items.specs.declared.items.Parameter.TheVariants.{Expression}
use Rattle.gt_items.specs.declared.items.Stars.{Stars}
use Rattle.gt_items.specs.declared.items.Stars.TheVariants.{Zero}
use Rattle.gt_drafts.specs.declared.types.Amount.{Amount}
use Rattle.gt_drafts.specs.declared.types.Amount.TheVariants.{Is}
use Rattle.gt_drafts.specs.declared.types.BaseType.{BaseType}
use Rattle.gt_drafts.specs.declared.types.BaseType.TheVariants.{Number}
use Rattle.gt_drafts.specs.declared.draft.Draft.{Draft}
use Rattle.gt_drafts.specs.declared.draft.DraftRoot.{DraftRoot}
use Rattle.gt_drafts.specs.Amounts.{amount_of_tree}
use Rattle.gt_drafts.specs.Shapes.{is_nil}

-- ---- names

-- the value of a constant
abbrev pub constant_of : Draft → List ℕ → Option ℤ
constant_of draft word = option_map (λ c. c.value) (find (λ c. bytes_eq c.name word) draft.constants)

abbrev pub is_number_base : BaseType → Stars → Bool
is_number_base (Number scalar is_char) Zero = true
is_number_base base stars = false

-- a root is a number
abbrev pub is_scalar : DraftRoot → Bool
is_scalar r = is_number_base r.ty.resolved.base r.ty.resolved.stars && is_nil r.ty.bounds

-- the root of a name, by its place, where it is a number
abbrev pub scalar_root : Draft → List ℕ → Option ℕ
scalar_root draft word = position_from (λ r. bytes_eq r.name.word word && is_scalar r) 0 draft.roots

-- what a name alone stands for
abbrev pub Names : Type 0
Names = List ℕ → Option Expr

-- in options of fields and structures: a constant
abbrev pub constants : Draft → Names
constants draft word = option_map expr.Int (constant_of draft word)

abbrev pub or_else : Option Expr → Option Expr → Option Expr
or_else (Some e) other = Some e
or_else None other = other

-- in options of roots: a constant, or a root that is a number
abbrev pub constants_and_roots : Draft → Names
constants_and_roots draft word = or_else (constants draft word) (option_map expr.Root (scalar_root draft word))

-- ---- expressions

abbrev pub names_step : RawExpr-F (List (List ℕ)) → List (List ℕ)
names_step (Int n) = []
names_step (Path base steps) = []
names_step (Named word) = word ∷ []
names_step (One op a) = a
names_step (Two op a b) = a ++ b
names_step (Cond test a b) = test ++ a ++ b

-- the names alone in an expression
abbrev pub names_in : RawExpr → List (List ℕ)
names_in = fold-RawExpr (List (List ℕ)) names_step

abbrev pub or_zero : Option Expr → Expr
or_zero (Some e) = e
or_zero None = expr.Int (pos 0)

abbrev pub named_step : Names → RawExpr-F Expr → Expr
named_step names (Int n) = expr.Int n
named_step names (Path base steps) = expr.Path base steps
named_step names (Named word) = or_zero (names word)
named_step names (One op a) = expr.One op a
named_step names (Two op a b) = expr.Two op a b
named_step names (Cond test a b) = expr.Cond test a b

-- The expression, with what its names stand for; one that stands for nothing, which is a fault, counts as 0.
abbrev pub with_names : Names → RawExpr → Expr
with_names names = fold-RawExpr Expr (named_step names)

-- the expression of a parameter; a missing one, which is a fault, counts as 0
abbrev pub expression_of : Names → Parameter → Expr
expression_of names (Expression e) = with_names names e
expression_of names parameter = expr.Int (pos 0)

abbrev pub value_of_amount : Amount → Option ℤ
value_of_amount (Is n) = Some n
value_of_amount amount = None

-- the value of a parameter that is a constant expression
abbrev pub constant_value : Draft → Parameter → Option ℤ
constant_value draft (Expression e) = value_of_amount (amount_of_tree (constant_of draft) e)
constant_value draft parameter = None
