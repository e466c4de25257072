-- No promise: by which number equal rows are found.
use Rattle.std.specs.Prelude.{ℕ, ◌+◌, ◌*◌, ◌%◌, ◌^◌, Bool, true, false, List, [], ◌∷◌, Option, Some, None, map, unsigned_abs}
use Rattle.gt_types.specs.declared.expressions.Base.TheVariants.{Here, Outer, Outermost}
use Rattle.gt_types.specs.declared.expressions.Expr.{Expr}
use Rattle.gt_types.specs.declared.expressions.Expr.TheOpen as tree
use Rattle.gt_types.specs.declared.expressions.Expr.TheFolds.{fold-Expr}
use Rattle.gt_types.specs.declared.program.Active.{Active}
use Rattle.gt_types.specs.declared.program.Active.TheVariants.{Always, Tag, Other, Never}
use Rattle.gt_walk.specs.declared.rows.Origin.{Origin}
use Rattle.gt_walk.specs.declared.rows.Origin.TheVariants.{Inside, Zero}
use Rattle.gt_walk.specs.declared.rows.RowLeaf.{RowLeaf}
use Rattle.gt_walk.specs.declared.rows.RowExpr.{RowExpr}
use Rattle.gt_walk.specs.declared.rows.Count.{Count}
use Rattle.gt_walk.specs.declared.rows.Count.TheVariants.{Fixed, Length}
use Rattle.gt_walk.specs.declared.rows.Arm.{Arm}
use Rattle.gt_walk.specs.declared.rows.WalkRow.{WalkRow}
use Rattle.gt_walk.specs.declared.rows.WalkRow.TheOpen.{WalkRow-F, Arm-F, Note, Ptr, Sub, Rep, Tail, Switch}
use Rattle.gt_walk.specs.declared.rows.WalkRow.TheFolds.{fold-WalkRow, fold-Arm}

-- a number with one more mixed into it
unfoldable pub mix : ℕ → ℕ → ℕ
mix sum number = ((sum + number) % 2 ^ 64 * 11400714819323198485) % 2 ^ 64

-- and with many, one after another
abbrev pub mix_all : ℕ → List ℕ → ℕ
mix_all sum [] = sum
mix_all sum (n ∷ ns) = mix_all (mix sum n) ns

abbrev pub flag_number : Bool → ℕ
flag_number true = 1
flag_number false = 0

abbrev pub chain_number : Option ℕ → ℕ
chain_number (Some offset) = offset + 1
chain_number None = 0

-- ---- expressions

abbrev pub origin_number : Origin → ℕ
origin_number (Inside Here) = 0
origin_number (Inside Outer) = 1
origin_number (Inside Outermost) = 2
origin_number Zero = 3

abbrev pub leaf_print : RowLeaf → ℕ
leaf_print leaf = mix (mix (mix (mix (origin_number leaf.origin) leaf.offset) leaf.bit) (flag_number leaf.signed)) leaf.width

abbrev pub leaves_print : ℕ → List RowLeaf → ℕ
leaves_print sum leaves = mix_all sum (map leaf_print leaves)

abbrev pub tree_step : tree.Expr-F ℕ → ℕ
tree_step (tree.Int value) = mix 1 (unsigned_abs value)
tree_step (tree.Path base steps) = 2
tree_step (tree.Root place) = mix 3 place
tree_step (tree.One op a) = mix 4 a
tree_step (tree.Two op a b) = mix (mix 5 a) b
tree_step (tree.Cond test first second) = mix (mix 6 test) (mix first second)

abbrev pub tree_print : Expr → ℕ
tree_print = fold-Expr ℕ tree_step

abbrev pub expr_print : RowExpr → ℕ
expr_print e = leaves_print (tree_print e.expr) e.leaves

-- ---- rows

abbrev pub count_print : Count → ℕ
count_print (Fixed n) = mix 1 n
count_print (Length e) = mix 2 (expr_print e)

abbrev pub active_print : Active → ℕ
active_print Always = 1
active_print (Tag tag) = mix 2 (unsigned_abs tag)
active_print Other = 3
active_print Never = 4

-- one row, by the numbers of its elements and arms
abbrev pub row_step : WalkRow-F ℕ ℕ → ℕ
row_step (Note size chain) = mix (mix 1 size) (chain_number chain)
row_step (Ptr offset walk count reorder) = mix (mix (mix (mix 2 offset) walk) (count_print count)) (flag_number reorder)
row_step (Sub offset walk) = mix (mix 3 offset) walk
row_step (Rep offset n size elem) = mix (mix (mix (mix 4 offset) n) size) elem
row_step (Tail offset len size elem) = mix (mix (mix (mix 5 offset) (expr_print len)) size) elem
row_step (Switch desc arms) = mix_all (mix 6 (expr_print desc)) arms.items

abbrev pub mix_if : ℕ → Option ℕ → ℕ
mix_if sum (Some n) = mix sum n
mix_if sum None = sum

abbrev pub arm_step : Arm-F ℕ ℕ → ℕ
arm_step arm = mix_if (active_print arm.active) arm.row

abbrev pub row_print : WalkRow → ℕ
row_print = fold-WalkRow ℕ ℕ row_step arm_step

abbrev pub arm_print : Arm → ℕ
arm_print = fold-Arm ℕ ℕ row_step arm_step

abbrev pub arms_print : ℕ → List Arm → ℕ
arms_print sum arms = mix_all sum (map arm_print arms)

abbrev pub rows_print : List WalkRow → ℕ
rows_print rows = mix_all 0 (map row_print rows)
