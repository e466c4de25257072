-- The values of the elements of a block, one after another.
use Rattle.std.proofs.Common.{◌≡◌, pos, false, List, [], ◌∷◌, ◌++◌, map, refl, sym, subst}
use Rattle.gt_types.specs.declared.types.Ty.{Ty}
use Rattle.gt_types.specs.declared.types.Ty.TheVariants as ty
use Rattle.gt_types.specs.declared.types.Width.TheVariants.{W1}
use Rattle.gt_types.specs.declared.types.Scalar.TheVariants as scalar
use Rattle.gt_types.specs.declared.program.Program.{Program}
use Rattle.gt_tree.specs.Trees.{Trees, Num, Row, End, And, count}
use Rattle.gt_tree.specs.Blocks.{Kind, Blocks, element_type}
use Rattle.gt_tree.specs.Scopes.{Scope, outside}
use Rattle.gt_tree.specs.Fits.{Fits, EachFits, no_more, one_more, number, EndsInZero, EndsAs}
use Rattle.gt_value.specs.declared.values.Value.{Value, Num as NumOf}
use Rattle.gt_value.specs.declared.names.BlockKind.{BlockKind}
use Rattle.gt_value.specs.declared.names.BlockKind.TheVariants as told
use Rattle.gt_value.specs.Names.{kind_of}
use Rattle.gt_value.specs.Values.{trees, tree_of}
use Rattle.gt_show.specs.BlockTexts.{ElementsFit}
use Rattle.gt_fit.proofs.Values.{num-tree}

module _ {program : Program} {blocks : Blocks} {scope : Scope} where
  pub each-none : (type : Ty) (values : List Value) → values ≡ [] → EachFits program blocks 0 scope type (trees (map tree_of values))
  each-none type values is = subst (λ (vs : List Value). EachFits program blocks 0 scope type (trees (map tree_of vs))) (sym is) no_more

  pub each-pushed : (type : Ty) (values : List Value) (v : Value) → EachFits program blocks 0 scope type (trees (map tree_of values)) → Fits program blocks 0 scope type (tree_of v)
      → EachFits program blocks 0 scope type (trees (map tree_of (values ++ v ∷ [])))
  each-pushed type [] v each fits = one_more fits no_more
  each-pushed type (x ∷ values) v (one_more one each) fits = one_more one (each-pushed type values v each fits)

-- the zero after characters is the last of them
pub ends-pushed : (values : List Value) → EndsInZero (trees (map tree_of (values ++ NumOf (pos 0) ∷ [])))
ends-pushed [] = num-tree (pos 0)
ends-pushed (x ∷ []) = num-tree (pos 0)
ends-pushed (x ∷ y ∷ values) = ends-pushed (y ∷ values)

pub zero-fits : (program : Program) (blocks : Blocks) (scope : Scope) → Fits program blocks 0 scope (ty.Num (scalar.Int W1 false)) (tree_of (NumOf (pos 0)))
zero-fits program blocks scope = subst (λ t. Fits program blocks 0 scope (ty.Num (scalar.Int W1 false)) t) (sym (num-tree (pos 0))) (number refl)

-- blocks of other things have no end
pub ends-other : (kind : BlockKind) (elements : Trees) → ¬ (kind ≡ told.Chars) → EndsAs (kind_of kind) elements
ends-other (told.Nodes node) elements off = tt
ends-other (told.Pointers node) elements off = tt
ends-other told.Strings elements off = tt
ends-other told.Chars elements off = absurd (off refl)
ends-other told.Raw elements off = tt

pub block-fits : (program : Program) (blocks : Blocks) (kind : Kind) (elements : Trees) → EachFits program blocks 0 (outside End) (element_type program kind) elements → EndsAs kind elements
    → ElementsFit program blocks kind elements
block-fits program blocks kind elements each ends = (End, count elements, 0, record { trees = elements; row = refl; as_many = refl; each = each; ends = ends })
