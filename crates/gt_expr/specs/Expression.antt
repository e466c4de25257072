-- Which texts are expressions, and what reading answers.
use Rattle.std.specs.Prelude.{◌≡◌, ℕ, ◌<◌, ◌⊎◌, if◌then◌else◌, nat_lt, List, length, Option, Some, None, Result, Ok, Err}
use Rattle.gt_types.specs.declared.faults.Fault.{Fault}
use Rattle.gt_types.specs.declared.faults.Stop.{Stop}
use Rattle.gt_types.specs.declared.faults.Stop.TheVariants.{Memory, At}
use Rattle.gt_expr.specs.declared.part.Line.TheVariants.{Conditional}
use Rattle.gt_expr.specs.declared.raw.RawExpr.{RawExpr}
use Rattle.gt_expr.specs.declared.TheConstants.{MAX_PARTS, BAD_EXPR, EXPR_TOO_LARGE}
use Rattle.gt_expr.specs.Grammar.{Derives}
use Rattle.gt_expr.specs.Parts.{parts_of}
use Rattle.gt_expr.specs.Reading.{tree_of}

-- more parts than an expression may have
abbrev pub IsTooLarge : List ℕ → Type 0
IsTooLarge text = MAX_PARTS < length (parts_of text)

-- the grammar gives the text's parts, and they stand for the tree
abbrev pub HasTree : List ℕ → RawExpr → Type 0
HasTree text tree = Derives Conditional (parts_of text) tree

-- a text with a tree and not too many parts
pub record IsExpression (text : List ℕ) (tree : RawExpr) : Type 0 where
  pub few : ¬ IsTooLarge text
  pub has_tree : HasTree text tree

-- a fault at the place that the caller gave
abbrev pub fault_at : ℕ → ℕ → ℕ → Fault
fault_at number file at = record { number = number; file = file; at = at }

-- why a text is no expression, and the fault that says so
abbrev pub IsRefused : List ℕ → ℕ → ℕ → Fault → Type 0
IsRefused text file at fault =
    ((fault ≡ fault_at EXPR_TOO_LARGE file at) × IsTooLarge text)
    ⊎ ((fault ≡ fault_at BAD_EXPR file at) × ¬ IsTooLarge text × ((tree : RawExpr) → ¬ HasTree text tree))

-- the answer, unless memory ran out
abbrev pub IsUnlessMemory : Result RawExpr Stop → Result RawExpr Stop → Type 0
IsUnlessMemory result answer = (result ≡ Err Memory) ⊎ (result ≡ answer)

-- what a stop says of the text
abbrev pub IsStopped : List ℕ → ℕ → ℕ → Stop → Type 0
IsStopped text file at Memory = Unit {0}
IsStopped text file at (At fault) = IsRefused text file at fault

-- a tree, or else the number of the fault of a text without one
abbrev pub tree_or_fault : Option RawExpr → Result RawExpr ℕ
tree_or_fault (Some tree) = Ok tree
tree_or_fault None = Err BAD_EXPR

-- which texts are expressions, as a function: the tree of the text, or the number of its fault
abbrev pub expression_of : List ℕ → Result RawExpr ℕ
expression_of text = if nat_lt MAX_PARTS (length (parts_of text)) then Err EXPR_TOO_LARGE else tree_or_fault (tree_of (parts_of text))
