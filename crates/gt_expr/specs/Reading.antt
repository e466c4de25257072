-- Reading a tree from parts, from left to right.
use Rattle.std.specs.Prelude.{◌≡◌, ℕ, zero, suc, List, [], ◌∷◌, ◌++◌, length, Option, Some, None, Result, Ok, Err, ◌==◌, if◌then◌else◌}
use Rattle.std.specs.Option.{option_map_or}
use Rattle.gt_types.specs.declared.expressions.Op.{Op}
use Rattle.gt_types.specs.declared.expressions.Op.TheVariants.{Neg, Not, Sub}
use Rattle.gt_expr.specs.declared.part.Part.{Part}
use Rattle.gt_expr.specs.declared.part.Part.TheVariants.{Integer, Name, Percent, Operator, Question, Colon, Dot, Open, Close}
use Rattle.gt_expr.specs.declared.part.Line.{Line}
use Rattle.gt_expr.specs.declared.part.Line.TheVariants.{Conditional, Level}
use Rattle.gt_expr.specs.declared.raw.RawExpr.{RawExpr}
use Rattle.gt_expr.specs.declared.raw.RawExpr.TheVariants.{Int, Path, Named, One, Two, Cond}
use Rattle.gt_expr.specs.declared.unread.Unread.{Unread}
use Rattle.gt_expr.specs.declared.unread.Unread.TheVariants.{Memory, NotGiven}
use Rattle.gt_expr.specs.Grammar.{level_of}

-- a tree and the parts after it, or nothing where the grammar gives none
abbrev pub Reading : Type 0
Reading = Option (RawExpr × List Part)

-- a step that needs what the one before gave
infixl 10 ◌>>=◌
abbrev pub ◌>>=◌ : {A B : Type 0} → Option A → (A → Option B) → Option B
None >>= f = None
(Some x) >>= f = f x

-- what an error says of a reading: that it gives nothing, unless memory ran out
abbrev pub Fails : {Y : Type 0} → Unread → Option Y → Type 0
Fails Memory read = Unit {0}
Fails NotGiven read = read ≡ None

-- what a function returned, seen by view, is what reading gives, unless memory ran out
abbrev pub Gives : {X Y : Type 0} → (X → Y) → Result X Unread → Option Y → Type 0
Gives view (Ok x) read = read ≡ Some (view x)
Gives view (Err e) read = Fails e read

-- the operator of a level at the front, and the parts after it
abbrev pub operator_at : ℕ → List Part → Option (Op × List Part)
operator_at level (Operator op ∷ ps) = if level_of op == level then Some (op, ps) else None
operator_at level ps = None

-- as long as an operator of the level follows, it and the operand after it join the tree, at most count times
unfoldable pub more_at : (List Part → Reading) → ℕ → ℕ → RawExpr → List Part → Reading
more_at operand level zero left ps = Some (left, ps)
more_at operand level (suc count) left ps =
    option_map_or (λ found. operand found.1 >>= λ right. more_at operand level count (Two found.0 left right.0) right.1) (operator_at level ps) (Some (left, ps))

-- the operators of a level, by a reader of unaries
unfoldable pub level_at : (List Part → Reading) → ℕ → List Part → Reading
level_at unary zero ps = unary ps
level_at unary (suc level) ps = do
  left ← level_at unary level ps
  more_at (level_at unary level) (suc level) (length left.1) left.0 left.1

-- the steps of a path at the front, and the parts after them
abbrev pub steps_at : List Part → List (List ℕ) × List Part
steps_at (Dot ∷ Name name ∷ ps) = (name ∷ (steps_at ps).0, (steps_at ps).1)
steps_at ps = ([], ps)

-- a path takes the steps after it; another tree has none
abbrev pub with_steps : RawExpr → List Part → RawExpr × List Part
with_steps (Path base steps) ps = (Path base (steps ++ (steps_at ps).0), (steps_at ps).1)
with_steps t ps = (t, ps)

-- a tree in brackets, after its opening bracket
abbrev pub closed_at : RawExpr → List Part → Reading
closed_at t (Close ∷ ps) = Some (with_steps t ps)
closed_at t ps = None

-- an operator of one operand, after the operator
abbrev pub prefixed_at : (Line → List Part → Reading) → Op → List Part → Reading
prefixed_at deeper op ps = do
  a ← deeper (Level 0) ps
  Some (One op a.0, a.1)

-- a unary, by a reader of what stands deeper
unfoldable pub unary_at : (Line → List Part → Reading) → List Part → Reading
unary_at deeper (Operator Not ∷ ps) = prefixed_at deeper Not ps
unary_at deeper (Operator Sub ∷ ps) = prefixed_at deeper Neg ps
unary_at deeper (Integer value ∷ ps) = Some (Int value, ps)
unary_at deeper (Name name ∷ ps) = Some (Named name, ps)
unary_at deeper (Percent base ∷ ps) = Some (with_steps (Path base []) ps)
unary_at deeper (Open ∷ ps) = do
  inner ← deeper Conditional ps
  closed_at inner.0 inner.1
unary_at deeper ps = None

-- the last branch of a choice, after the other
abbrev pub no_at : (Line → List Part → Reading) → RawExpr → RawExpr → List Part → Reading
no_at deeper test one (Colon ∷ ps) = do
  other ← deeper Conditional ps
  Some (Cond test one other.0, other.1)
no_at deeper test one ps = None

-- the branches of a choice, where there is one after the test
abbrev pub branches_at : (Line → List Part → Reading) → RawExpr → List Part → Reading
branches_at deeper test (Question ∷ ps) = do
  one ← deeper Conditional ps
  no_at deeper test one.0 one.1
branches_at deeper test ps = Some (test, ps)

-- a line of the grammar, by a reader of what stands deeper
unfoldable pub line_at : (Line → List Part → Reading) → Line → List Part → Reading
line_at deeper (Level level) ps = level_at (unary_at deeper) level ps
line_at deeper Conditional ps = do
  test ← level_at (unary_at deeper) 6 ps
  branches_at deeper test.0 test.1

-- a line of the grammar in which fewer than depth lines stand in one another
unfoldable pub tree_at : ℕ → Line → List Part → Reading
tree_at zero line ps = None
tree_at (suc depth) line ps = line_at (tree_at depth) line ps

-- the tree where it is of all the parts
abbrev pub whole_of : RawExpr → List Part → Option RawExpr
whole_of t [] = Some t
whole_of t (p ∷ ps) = None

-- the tree of parts, which are as many as lines can stand in one another
unfoldable pub tree_of : List Part → Option RawExpr
tree_of ps = do
  read ← line_at (tree_at (length ps)) Conditional ps
  whole_of read.0 read.1
