-- What fits beside some blocks fits beside others, where those that it names are still there.
use Rattle.std.proofs.Common.{◌≡◌, ℕ, List, [], Option, Some, None, subst}
use Rattle.std.specs.Prelude.{ℤ, Contains}
use Rattle.std.proofs.lemmas.List.Elements.{Contains-append_left, Contains-append_right}
use Rattle.gt_types.specs.declared.expressions.Expr.{Expr}
use Rattle.gt_types.specs.declared.types.Target.TheVariants as target
use Rattle.gt_types.specs.declared.types.PtrKind.TheVariants as kind
use Rattle.gt_types.specs.declared.types.Ty.{Ty}
use Rattle.gt_types.specs.declared.types.Ty.TheVariants as ty
use Rattle.gt_types.specs.declared.program.Program.{Program}
use Rattle.gt_tree.specs.Trees.{Tree, Trees, And, edges, all_edges}
use Rattle.gt_tree.specs.Blocks.{Kind, Block, Blocks, Holds, MayName}
use Rattle.gt_tree.specs.Scopes.{Scope, eval_in}
use Rattle.gt_tree.specs.Fits.{Fits, AllFit, EachFits, BlockFits}
use Rattle.gt_objects.proofs.Items.{first_there}

module _ (blocks others : Blocks) where
  -- the block of a name is still there
  abbrev pub IsStill : ℕ → Type 0
  IsStill id = (b : Block) → blocks id ≡ Some b → others id ≡ Some b

  pub holds_still : (id : ℕ) → IsStill id → (kind : Kind) (n : ℕ) → Holds blocks id kind n → Holds others id kind n
  holds_still id still kind n (b, e, k, c) = (b, still b e, k, c)

  may_still : (value : Expr → Option ℤ) (type : Ty) (id : ℕ) → IsStill id → MayName blocks value type id → MayName others value type id
  may_still value (ty.Str None) id still (b, text, e, k, c, all) = (b, text, still b e, k, c, all)
  may_still value (ty.Str (Some long)) id still (n, v, (b, e, k, c)) = (n, v, (b, still b e, k, c))
  may_still value (ty.Ptr (Some (target.Node node)) kind.Plain reorder) id still (b, e, k, c) = (b, still b e, k, c)
  may_still value (ty.Ptr (Some (target.Node node)) (kind.Length long) reorder) id still (n, v, (b, e, k, c)) = (n, v, (b, still b e, k, c))
  may_still value (ty.Ptr (Some (target.Pointers node)) (kind.Length long) reorder) id still (n, v, (b, e, k, c)) = (n, v, (b, still b e, k, c))
  may_still value (ty.Ptr (Some target.Strings) (kind.Length long) reorder) id still (n, v, (b, e, k, c)) = (n, v, (b, still b e, k, c))
  may_still value (ty.Ptr None kind.Atomic reorder) id still (n, (b, e, k, c)) = (n, (b, still b e, k, c))
  may_still value type id still h = absurd h

  -- the blocks of these names are still there
  abbrev pub AreStill : List ℕ → Type 0
  AreStill ids = (id : ℕ) → Contains ids id → IsStill id

  first_still : (tree : Tree) (trees : Trees) → AreStill (all_edges (And tree trees)) → AreStill (edges tree)
  first_still tree trees still id there = still id (Contains-append_left (edges tree) (all_edges trees) id there)

  rest_still : (tree : Tree) (trees : Trees) → AreStill (all_edges (And tree trees)) → AreStill (all_edges trees)
  rest_still tree trees still id there = still id (Contains-append_right (edges tree) (all_edges trees) id there)

  module _ {program : Program} {capacity : ℕ} where
    mutual
      pub fits_still : {scope : Scope} {type : Ty} {tree : Tree} → AreStill (edges tree) → Fits program blocks capacity scope type tree → Fits program others capacity scope type tree
      fits_still still (Fits.number room) = Fits.number room
      fits_still still (Fits.bits room) = Fits.bits room
      fits_still still (Fits.opaque long small) = Fits.opaque long small
      fits_still still (Fits.null p) = Fits.null p
      fits_still still (Fits.to {scope} {type} {id} m) = Fits.to (may_still (eval_in program scope) type id (still id (first_there id [])) m)
      fits_still still (Fits.struct has struct all) = Fits.struct has struct (fields_still still all)
      fits_still still (Fits.member has union active get fits) = Fits.member has union active get (fits_still still fits)
      fits_still still (Fits.common has union active o plain fits) = Fits.common has union active o plain (fits_still still fits)
      fits_still still (Fits.nothing has union active none) = Fits.nothing has union active none
      fits_still still (Fits.array e many each) = Fits.array e many (each_still still each)
      fits_still still (Fits.tail e value le many each) = Fits.tail e value le many (each_still still each)

      pub fields_still : {scope : Scope} {types : List Ty} {trees : Trees} → AreStill (all_edges trees) → AllFit program blocks capacity scope types trees → AllFit program others capacity scope types trees
      fields_still still AllFit.none = AllFit.none
      fields_still still (AllFit.more {tree} {trees} fits all) = AllFit.more (fits_still (first_still tree trees still) fits) (fields_still (rest_still tree trees still) all)

      pub each_still : {scope : Scope} {type : Ty} {trees : Trees} → AreStill (all_edges trees) → EachFits program blocks capacity scope type trees → EachFits program others capacity scope type trees
      each_still still EachFits.no_more = EachFits.no_more
      each_still still (EachFits.one_more {tree} {trees} fits each) = EachFits.one_more (fits_still (first_still tree trees still) fits) (each_still (rest_still tree trees still) each)

  pub block_still : (program : Program) (statics : Trees) (kind : Kind) (n capacity : ℕ) (value : Tree) → AreStill (edges value) → BlockFits program blocks statics kind n capacity value
      → BlockFits program others statics kind n capacity value
  block_still program statics kind n capacity value still fits = record {
    trees = fits.trees;
    row = fits.row;
    as_many = fits.as_many;
    each = each_still (subst (λ t. AreStill (edges t)) fits.row still) fits.each;
    ends = fits.ends;
  }
