-- The grammar of expressions: which parts stand for which tree.
use Rattle.std.specs.Prelude.{◌≡◌, ℕ, suc, ℤ, List, [], ◌∷◌, ◌++◌}
use Rattle.gt_types.specs.declared.expressions.Base.{Base}
use Rattle.gt_types.specs.declared.expressions.Op.{Op}
use Rattle.gt_types.specs.declared.expressions.Op.TheVariants.{Neg, Not, Add, Sub, Mul, Lt, Le, Gt, Ge, Eq, Ne, And, Or}
use Rattle.gt_expr.specs.declared.part.Part.{Part}
use Rattle.gt_expr.specs.declared.part.Part.TheVariants.{Integer, Name, Percent, Operator, Question, Colon, Dot, Open, Close}
use Rattle.gt_expr.specs.declared.part.Line.{Line}
use Rattle.gt_expr.specs.declared.part.Line.TheVariants.{Conditional, Level}
use Rattle.gt_expr.specs.declared.raw.RawExpr.{RawExpr}
use Rattle.gt_expr.specs.declared.raw.RawExpr.TheVariants.{Int, Path, Named, One, Two, Cond}

-- how tight an operator of two operands binds, from 1, the tightest, to 6: the lines prod, sum, rel, eq, and, or; an operator of one has 0
abbrev pub level_of : Op → ℕ
level_of Neg = 0
level_of Not = 0
level_of Mul = 1
level_of Add = 2
level_of Sub = 2
level_of Lt = 3
level_of Le = 3
level_of Gt = 3
level_of Ge = 3
level_of Eq = 4
level_of Ne = 4
level_of And = 5
level_of Or = 6

-- place := (base | "(" place ")") {"." name}
pub data IsPlace : List Part → Base → List (List ℕ) → Type 0 where
  at_base : {base : Base} → IsPlace (Percent base ∷ []) base []
  in_brackets : {ps : List Part} {base : Base} {steps : List (List ℕ)} → IsPlace ps base steps → IsPlace (Open ∷ ps ++ Close ∷ []) base steps
  with_step : {ps : List Part} {base : Base} {steps : List (List ℕ)} (name : List ℕ) → IsPlace ps base steps → IsPlace (ps ++ Dot ∷ Name name ∷ []) base (steps ++ name ∷ [])

-- which parts a line of the grammar gives, and the tree that they stand for; an operator groups to the left
pub data Derives : Line → List Part → RawExpr → Type 0 where
  -- cond := or | or "?" cond ":" cond
  no_choice : {ps : List Part} {t : RawExpr} → Derives (Level 6) ps t → Derives Conditional ps t
  choice : {xs ys zs : List Part} {test first second : RawExpr} → Derives (Level 6) xs test → Derives Conditional ys first → Derives Conditional zs second
      → Derives Conditional (xs ++ Question ∷ ys ++ Colon ∷ zs) (Cond test first second)
  -- or, and, eq, rel, sum, prod: an operand of the next line, or a tree of this line, an operator of it and an operand of the next
  operand : {level : ℕ} {ps : List Part} {t : RawExpr} → Derives (Level level) ps t → Derives (Level (suc level)) ps t
  operation : {level : ℕ} {xs ys : List Part} {op : Op} {a b : RawExpr} → level_of op ≡ suc level → Derives (Level (suc level)) xs a → Derives (Level level) ys b
      → Derives (Level (suc level)) (xs ++ Operator op ∷ ys) (Two op a b)
  -- unary := "!" unary | "-" unary | integer | name | place | "(" cond ")"
  negated : {ps : List Part} {a : RawExpr} → Derives (Level 0) ps a → Derives (Level 0) (Operator Not ∷ ps) (One Not a)
  negative : {ps : List Part} {a : RawExpr} → Derives (Level 0) ps a → Derives (Level 0) (Operator Sub ∷ ps) (One Neg a)
  integer : {value : ℤ} → Derives (Level 0) (Integer value ∷ []) (Int value)
  named : {name : List ℕ} → Derives (Level 0) (Name name ∷ []) (Named name)
  place : {ps : List Part} {base : Base} {steps : List (List ℕ)} → IsPlace ps base steps → Derives (Level 0) ps (Path base steps)
  bracketed : {ps : List Part} {t : RawExpr} → Derives Conditional ps t → Derives (Level 0) (Open ∷ ps ++ Close ∷ []) t
