-- The trees of values, by their variants.
use Rattle.std.proofs.Common.{◌≡◌, ◌∙◌, ℕ, ℤ, List, map, ap, subst, sym, refl, Option}
use Rattle.gt_tree.specs.Trees.{Tree, Num as NumTree, Null as NullTree, To as ToTree, Raw as RawTree, Rec as RecTree, Alt as AltTree, Row as RowTree, Trees}
use Rattle.gt_value.specs.declared.values.Value.{Value, out-Value, roll-Value}
use Rattle.gt_value.specs.declared.values.Value.TheFolds.{map-Value, fold_out-Value, ind-Value}
use Rattle.gt_value.specs.declared.values.Value.TheOpen as part
use Rattle.gt_value.specs.declared.values.Value.TheOpen.{Value-F}
use Rattle.gt_value.specs.declared.values.Value.TheVariants as value
use Rattle.gt_value.specs.Values.{trees, tree_step, tree_of}

tree-layer : (v : Value) (x : Value-F Value) → out-Value v ≡ x → tree_of v ≡ tree_step (map-Value Value Tree tree_of x)
tree-layer v x e = fold_out-Value Tree tree_step v ∙ ap (λ y. tree_step (map-Value Value Tree tree_of y)) e

pub tree-num : (n : ℤ) → tree_of (value.Num n) ≡ NumTree n
tree-num n = tree-layer (value.Num n) _ (value.outs-Num n)

pub tree-null : tree_of value.Null ≡ NullTree
tree-null = tree-layer value.Null _ value.outs-Null

pub tree-to : (address : ℕ) → tree_of (value.To address) ≡ ToTree address
tree-to address = tree-layer (value.To address) _ (value.outs-To address)

pub tree-raw : (bytes : List ℕ) → tree_of (value.Raw bytes) ≡ RawTree bytes
tree-raw bytes = tree-layer (value.Raw bytes) _ (value.outs-Raw bytes)

pub tree-rec : (parts : _) → tree_of (value.Rec parts) ≡ RecTree (trees (map tree_of parts.items))
tree-rec parts = tree-layer (value.Rec parts) _ (value.outs-Rec parts)

pub tree-row : (parts : _) → tree_of (value.Row parts) ≡ RowTree (trees (map tree_of parts.items))
tree-row parts = tree-layer (value.Row parts) _ (value.outs-Row parts)

pub tree-alt : (member : Option ℕ) (v : Value) → tree_of (value.Alt member v) ≡ AltTree member (tree_of v)
tree-alt member v = tree-layer (value.Alt member v) _ (value.outs-Alt member v)

-- ---- a value whose tree is that of a struct

abbrev RecIfTree : Value → Type 0
RecIfTree v = (ts : Trees) → tree_of v ≡ RecTree ts → ¬ ((parts : _) → ¬ (v ≡ value.Rec parts))

row_no_rec : (parts : _) → RecIfTree (value.Row parts)
row_no_rec parts ts e never = let own = tree-row parts in cc

rec_layer : (y : Value-F ((v : Value) × RecIfTree v)) → RecIfTree (roll-Value (map-Value ((v : Value) × RecIfTree v) Value (λ e. e.0) y))
rec_layer (part.Num n) = subst RecIfTree (sym (value.rolls-Num n)) (λ ts e never. let own = tree-num n in cc)
rec_layer part.Null = subst RecIfTree (sym value.rolls-Null) (λ ts e never. let own = tree-null in cc)
rec_layer (part.To address) = subst RecIfTree (sym (value.rolls-To address)) (λ ts e never. let own = tree-to address in cc)
rec_layer (part.Raw bytes) = subst RecIfTree (sym (value.rolls-Raw bytes)) (λ ts e never. let own = tree-raw bytes in cc)
rec_layer (part.Rec parts) = subst RecIfTree (sym (value.rolls-Rec _)) (λ ts e never. never _ refl)
rec_layer (part.Alt member v) = subst RecIfTree (sym (value.rolls-Alt member v.0)) (λ ts e never. let own = tree-alt member v.0 in cc)
rec_layer (part.Row parts) = subst RecIfTree (sym (value.rolls-Row _)) (row_no_rec _)

pub rec_if_tree : (v : Value) → RecIfTree v
rec_if_tree = ind-Value RecIfTree (λ x y is. subst (λ z. RecIfTree (roll-Value z)) is (rec_layer y))
