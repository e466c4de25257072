-- The expressions in rows, each with its leaves in one order: so what serves the same has equal rows.
use Rattle.std.specs.Prelude.{◌≡◌, ℕ, ◌==◌, Bool, not, List, [], ◌∷◌, Option, Some, None, filter, length}
use Rattle.std.specs.List.{flat_map, range_with_len}
use Rattle.gt_types.specs.Paths.{roots_of}
use Rattle.gt_walk.specs.declared.rows.Count.{Count}
use Rattle.gt_walk.specs.declared.rows.Count.TheVariants.{Fixed, Length}
use Rattle.gt_walk.specs.declared.rows.RowExpr.{RowExpr}
use Rattle.gt_walk.specs.declared.rows.WalkRow.{WalkRow}
use Rattle.gt_walk.specs.declared.rows.WalkRow.TheOpen.{WalkRow-F, Arm-F, Note, Ptr, Sub, Rep, Tail, Switch}
use Rattle.gt_walk.specs.declared.rows.WalkRow.TheFolds.{fold-WalkRow}

-- ---- the leaves that an expression reads

-- in a row `Root(i)` reads the i-th leaf; no leaf has this number
abbrev pub NO_LEAF : ℕ
NO_LEAF = 4294967295

abbrev pub is_leaf : ℕ → Bool
is_leaf i = not (i == NO_LEAF)

-- an expression names each of its leaves once, in their order, and beside them only `NO_LEAF`; a number that it names twice has two leaves
abbrev pub IsOrdered : RowExpr → Type 0
IsOrdered r = filter is_leaf (roots_of r.expr) ≡ range_with_len 0 (length r.leaves)

-- ---- the expressions in rows

abbrev pub in_count : Count → List RowExpr
in_count (Fixed n) = []
in_count (Length e) = e ∷ []

-- the expressions in one row, by those of its elements and arms: the length of a pointer or of a tail, and the `desc` of a union
abbrev pub exprs_at : WalkRow-F (List RowExpr) (List RowExpr) → List RowExpr
exprs_at (Note size chain) = []
exprs_at (Ptr offset walk count reorder) = in_count count
exprs_at (Sub offset walk) = []
exprs_at (Rep offset n size elem) = elem
exprs_at (Tail offset len size elem) = len ∷ elem
exprs_at (Switch desc arms) = desc ∷ flat_map (λ exprs. exprs) arms.items

-- an arm without a row has none
abbrev pub exprs_of_row : Option (List RowExpr) → List RowExpr
exprs_of_row (Some exprs) = exprs
exprs_of_row None = []

abbrev pub exprs_in_arm : Arm-F (List RowExpr) (List RowExpr) → List RowExpr
exprs_in_arm arm = exprs_of_row arm.row

-- the expressions in a row, in its elements and arms too
abbrev pub exprs_in : WalkRow → List RowExpr
exprs_in = fold-WalkRow (List RowExpr) (List RowExpr) exprs_at exprs_in_arm
