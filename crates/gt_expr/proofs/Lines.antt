-- The lines of the grammar, one step at a time.
use Rattle.std.proofs.Common.{◌≡◌, ℕ, zero, suc, ◌+◌, ◌-◌, ◌<◌, List, length, Some, None, refl, sym, ◌∙◌, arith}
use Rattle.gt_types.specs.declared.expressions.Op.{Op}
use Rattle.gt_expr.specs.declared.part.Part.{Part}
use Rattle.gt_expr.specs.declared.part.Line.{Line}
use Rattle.gt_expr.specs.declared.part.Line.TheVariants.{Level}
use Rattle.gt_expr.specs.declared.raw.RawExpr.{RawExpr}
use Rattle.gt_expr.specs.declared.raw.RawExpr.TheVariants.{Two}
use Rattle.gt_expr.specs.declared.unread.Unread.{Unread}
use Rattle.gt_expr.specs.declared.unread.Unread.TheVariants.{Memory, NotGiven}
use Rattle.gt_expr.specs.Reading.{Reading, ◌>>=◌, Fails, operator_at, more_at, level_at, unary_at, line_at, tree_at}

-- a line that stands one deeper
pub tree_at_deeper : (depth n : ℕ) (line : Line) (ps : List Part) → depth ≡ n + 1 → tree_at depth line ps ≡ line_at (tree_at n) line ps
unfolding tree_at
tree_at_deeper depth n line ps e = let k : depth ≡ suc n = omega arith in rw k refl

pub tree_at_end : (depth : ℕ) (line : Line) (ps : List Part) → depth < 1 → tree_at depth line ps ≡ None
unfolding tree_at
tree_at_end depth line ps h = let k : depth ≡ 0 = omega arith in rw k refl

pub line_at_level : (deeper : Line → List Part → Reading) (level : ℕ) (ps : List Part) → line_at deeper (Level level) ps ≡ level_at (unary_at deeper) level ps
unfolding line_at
line_at_level deeper level ps = refl

-- a level's operand
pub level_at_unary : (unary : List Part → Reading) (level : ℕ) (ps : List Part) → level ≡ 0 → level_at unary level ps ≡ unary ps
unfolding level_at
level_at_unary unary level ps e = rw e refl

pub level_at_fails : (e : Unread) (unary : List Part → Reading) (level : ℕ) (ps : List Part) → 0 < level → Fails e (level_at unary (level - 1) ps) → Fails e (level_at unary level ps)
unfolding level_at
level_at_fails Memory unary level ps h f = tt
level_at_fails NotGiven unary level ps h f =
    let k : level ≡ suc (level - 1) = omega arith in rw k (rw f refl)

-- a level after its first operand
pub level_at_begins : (unary : List Part → Reading) (level : ℕ) (ps : List Part) (left : RawExpr) (rest : List Part) → 0 < level → level_at unary (level - 1) ps ≡ Some (left, rest)
    → more_at (level_at unary (level - 1)) level (length rest - 0) left rest ≡ level_at unary level ps
unfolding level_at
level_at_begins unary zero ps left rest h e = absurd (omega arith)
level_at_begins unary (suc level) ps left rest h e =
    let k : suc level - 1 ≡ level = omega arith in
    let all : length rest - 0 ≡ length rest = omega arith in
    let first : level_at unary level ps ≡ Some (left, rest) = rw k at e in
    rw (k, all, first) refl

module _ (operand : List Part → Reading) (level count i : ℕ) (left : RawExpr) (rest : List Part) (op : Op) (after : List Part) (total : Reading) (lt : i < count)
    (found : operator_at level rest ≡ Some (op, after)) (so_far : more_at operand level (count - i) left rest ≡ total) where
  here : total ≡ (operand after >>= λ right. more_at operand level (count - (i + 1)) (Two op left right.0) right.1)
  unfolding more_at
  here = let k : count - i ≡ suc (count - (i + 1)) = omega arith in sym so_far ∙ rw (k, found) refl

  pub more_at_goes_on : (right : RawExpr) (following : List Part) → operand after ≡ Some (right, following) → more_at operand level (count - (i + 1)) (Two op left right) following ≡ total
  more_at_goes_on right following e = sym (here ∙ rw e refl)

  pub more_at_fails : (e : Unread) → Fails e (operand after) → Fails e total
  more_at_fails Memory f = tt
  more_at_fails NotGiven f = here ∙ rw f refl

-- no operator of the level follows
pub more_at_ends : (operand : List Part → Reading) (level count : ℕ) (left : RawExpr) (rest : List Part) → operator_at level rest ≡ None → more_at operand level count left rest ≡ Some (left, rest)
unfolding more_at
more_at_ends operand level zero left rest e = refl
more_at_ends operand level (suc count) left rest e = rw e refl

pub more_at_none : (operand : List Part → Reading) (level count : ℕ) (left : RawExpr) (rest : List Part) → count ≡ 0 → more_at operand level count left rest ≡ Some (left, rest)
unfolding more_at
more_at_none operand level count left rest e = rw e refl
