-- The text of an expression.
use Rattle.std.specs.Prelude.{ℕ, List, [], ◌∷◌, ◌++◌, codes, encode_utf8_all}
use Rattle.std.specs.List.{flat_map}
use Rattle.gt_types.specs.declared.expressions.Base.{Base}
use Rattle.gt_types.specs.declared.expressions.Base.TheVariants.{Here, Outer, Outermost}
use Rattle.gt_types.specs.declared.expressions.Op.{Op}
use Rattle.gt_types.specs.declared.expressions.Op.TheVariants.{Neg, Not, Add, Sub, Mul, Lt, Le, Gt, Ge, Eq, Ne, And, Or}
use Rattle.gt_types.specs.declared.expressions.Expr.{Expr}
use Rattle.gt_types.specs.declared.expressions.Expr.TheOpen.{Expr-F, Int, Path, Root, One, Two, Cond}
use Rattle.gt_types.specs.declared.expressions.Expr.TheFolds.{fold-Expr}
use Rattle.gt_types.specs.declared.program.Program.{Program}
use Rattle.gt_canon.specs.Lines.{spaced, integer}
use Rattle.gt_canon.specs.Names.{root_name}

-- where a path begins
abbrev pub base_text : Base → List ℕ
base_text Here = codes "%h"
base_text Outer = codes "%1"
base_text Outermost = codes "%0"

-- an operator as C spells it
abbrev pub operator_text : Op → List ℕ
operator_text Neg = codes "-"
operator_text Not = codes "!"
operator_text Add = codes "+"
operator_text Sub = codes "-"
operator_text Mul = codes "*"
operator_text Lt = codes "<"
operator_text Le = codes "<="
operator_text Gt = codes ">"
operator_text Ge = codes ">="
operator_text Eq = codes "=="
operator_text Ne = codes "!="
operator_text And = codes "&&"
operator_text Or = codes "||"

-- each name after a dot (46)
abbrev pub dotted : List (List ℕ) → List ℕ
dotted names = flat_map (λ name. 46 ∷ encode_utf8_all name) names

-- an operator and its operands in brackets, with spaces between them
abbrev pub bracketed : List ℕ → List (List ℕ) → List ℕ
bracketed operator operands = codes "(" ++ operator ++ spaced operands ++ codes ")"

-- one part of an expression, by the texts of its operands
abbrev pub expression_step : Program → Expr-F (List ℕ) → List ℕ
expression_step program (Int n) = integer n
expression_step program (Path base steps) = base_text base ++ dotted steps
expression_step program (Root place) = codes "@" ++ root_name program place
expression_step program (One op a) = bracketed (operator_text op) (a ∷ [])
expression_step program (Two op a b) = bracketed (operator_text op) (a ∷ b ∷ [])
expression_step program (Cond test a b) = bracketed (codes "?") (test ∷ a ∷ b ∷ [])

-- the text of an expression
abbrev pub expression_text : Program → Expr → List ℕ
expression_text program = fold-Expr (List ℕ) (expression_step program)
