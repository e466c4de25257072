-- Values that fit a type beside the objects of a graph, and the parts of such values.
use Rattle.std.proofs.Common.{◌≡◌, ℕ, zero, suc, ◌<◌, List, [], ◌∷◌, refl, ap, subst, ◌∙◌, arith, Some}
use Rattle.std.specs.Prelude.{slice_get}
use Rattle.gt_types.specs.declared.types.Ty.{Ty}
use Rattle.gt_types.specs.declared.types.Ty.TheVariants as ty
use Rattle.gt_types.specs.declared.types.Ty.TheVariants.{outs-Node}
use Rattle.gt_types.specs.declared.program.Program.{Program}
use Rattle.gt_tree.specs.Trees.{Tree, Trees, End, And, count, tree_at, part_at, part_of}
use Rattle.gt_tree.specs.Blocks.{Blocks}
use Rattle.gt_tree.specs.Scopes.{Scope, Typed, ◌then◌}
use Rattle.gt_tree.specs.Fits.{Fits, AllFit, EachFits}
use Rattle.gt_graph.specs.Objects.{Graph, blocks_of}
use Rattle.gt_next.specs.Spots.{element_at, element_of, type_of_part, typed_part}

-- a value fits its type beside the objects of a graph, somewhere in a block or in the static record
pub record FitsIn (program : Program) (g : Graph) (t : Typed) : Type 0 where
  pub capacity : ℕ
  pub scope : Scope
  pub fits : Fits program (blocks_of g.objects) capacity scope t.type t.value

-- ---- parts by their places

pub part-one : (program : Program) (type inner : Ty) (tree part : Tree) (place : ℕ) (path : List ℕ) → type_of_part program type place ≡ Some inner → part_at tree (place ∷ []) ≡ Some part
    → typed_part program type tree (place ∷ path) ≡ typed_part program inner part path
part-one program type inner tree part place path e h =
    ap (λ o. o then (λ t. part_at tree (place ∷ []) then (λ p. typed_part program t p path))) e ∙ ap (λ o. o then (λ p. typed_part program inner p path)) h

pub part-there : (trees : Trees) (place : ℕ) (tree : Tree) → tree_at trees place ≡ Some tree → part_of trees place [] ≡ Some tree
part-there End place tree e = absurd (cc)
part-there (And first rest) zero tree e = e
part-there (And first rest) (suc place) tree e = part-there rest place tree e

-- the type of the elements of an array, by a place
pub element-part : (program : Program) (type elem : Ty) (place : ℕ) → element_of type ≡ Some elem → type_of_part program type place ≡ Some elem
element-part program (ty.Node node desc) elem place e = let o = ap element_at (outs-Node node desc) in absurd (cc)
element-part program type elem place e = e

module _ {program : Program} {blocks : Blocks} {capacity : ℕ} {scope : Scope} where
  -- the value of a field at a place
  pub field-fits : {types : List Ty} {trees : Trees} → AllFit program blocks capacity scope types trees → (place : ℕ) (type : Ty) → slice_get types place ≡ Some type
      → (tree : Tree) × (tree_at trees place ≡ Some tree) × Fits program blocks capacity scope type tree
  field-fits AllFit.none place type e = absurd (cc)
  field-fits (AllFit.more {type = first} {tree} fits all) zero type e = let same : first ≡ type = cc in (tree, refl, subst (λ t. Fits program blocks capacity scope t tree) same fits)
  field-fits (AllFit.more fits all) (suc place) type e = field-fits all place type e

  -- the element at a place
  pub element-fits : {type : Ty} {trees : Trees} → EachFits program blocks capacity scope type trees → (place : ℕ) → place < count trees
      → (tree : Tree) × (tree_at trees place ≡ Some tree) × Fits program blocks capacity scope type tree
  element-fits EachFits.no_more place lt = absurd (omega arith)
  element-fits (EachFits.one_more {tree} fits each) zero lt = (tree, refl, fits)
  element-fits (EachFits.one_more fits each) (suc place) lt = element-fits each place (omega arith)
