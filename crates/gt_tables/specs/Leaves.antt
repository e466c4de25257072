-- No promise: what the proofs of expressions over leaves speak of.
use Rattle.std.specs.Prelude.{◌≡◌, ◌<◌, ℕ, ◌^◌, List, [], ◌∷◌, ◌++◌, filter, length, Option, slice_get}
use Rattle.std.specs.List.{range_with_len}
use Rattle.gt_types.specs.declared.expressions.Expr.{Expr}
use Rattle.gt_types.specs.declared.expressions.Expr.TheVariants.{Root}
use Rattle.gt_types.specs.Paths.{roots_of}
use Rattle.gt_walk.specs.declared.rows.RowLeaf.{RowLeaf}
use Rattle.gt_edges.specs.Walks.{Translates, path_leaf, root_leaf}
use Rattle.gt_tables.specs.Building.{around_of}
use Rattle.gt_tables.specs.Ordered.{is_leaf}
use Rattle.gt_tables.specs.declared.sources.Around.{Around}
use Rattle.gt_tables.specs.declared.sources.Source.{Source}

-- leaves are added, and no more of them than have numbers
pub record GetLeaves (old new : List RowLeaf) : Type 0 where
  pub more : List RowLeaf
  pub is : new ≡ old ++ more
  pub few : length old < 2 ^ 32 → length new < 2 ^ 32

-- these numbers are those of the leaves that are added, in order, and beside them only that of no leaf
abbrev pub AreReads : (old more : List RowLeaf) → List ℕ → Type 0
AreReads old more numbers = filter is_leaf numbers ≡ range_with_len (length old) (length more)

-- an expression reads a leaf, whichever leaves are added after it
pub record IsRead (old new : List RowLeaf) (leaf : Option RowLeaf) (x : Expr) : Type 0 where
  pub get : GetLeaves old new
  pub place : ℕ
  pub is : x ≡ Root place
  pub order : AreReads old get.more (place ∷ [])
  pub reads : (rest : List RowLeaf) → length (new ++ rest) < 2 ^ 32 → slice_get (new ++ rest) place ≡ leaf

-- an expression over leaves is one of the program, whichever leaves are added after them
pub record IsTranslated (source : Source) (around : Around) (old new : List RowLeaf) (e x : Expr) : Type 0 where
  pub get : GetLeaves old new
  pub order : AreReads old get.more (roots_of x)
  pub same : (rest : List RowLeaf) → length (new ++ rest) < 2 ^ 32
      → Translates (path_leaf source.program.now source.layouts.now (around_of around)) (root_leaf source.program.now source.layouts.now) (new ++ rest) e x
