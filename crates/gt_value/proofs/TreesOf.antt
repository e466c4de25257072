-- The trees of values, by their forms.
use Rattle.std.proofs.Common.{◌≡◌, ◌∙◌, ℕ, List, map, ap, Option}
use Rattle.std.specs.Prelude.{ℤ}
use Rattle.gt_tree.specs.Trees.{Tree, Num as NumTree, Null as NullTree, To as ToTree, Raw as RawTree, Rec as RecTree, Alt as AltTree, Row as RowTree}
use Rattle.gt_value.specs.declared.values.Value.{Value}
use Rattle.gt_value.specs.declared.values.Value.TheVariants as value
use Rattle.gt_value.specs.declared.values.Value.TheVariants.{outs-Num, outs-Null, outs-To, outs-Raw, outs-Rec, outs-Alt, outs-Row}
use Rattle.gt_value.specs.declared.values.Value.TheFolds.{map-Value, fold_out-Value}
use Rattle.gt_value.specs.declared.values.Value.TheOpen.{Value-F}
use Rattle.gt_value.specs.declared.values.Value.{out-Value}
use Rattle.gt_value.specs.Values.{trees, tree_step, tree_of}

tree-layer : (v : Value) (x : Value-F Value) → out-Value v ≡ x → tree_of v ≡ tree_step (map-Value Value Tree tree_of x)
tree-layer v x e = fold_out-Value Tree tree_step v ∙ ap (λ y. tree_step (map-Value Value Tree tree_of y)) e

pub tree-num : (n : ℤ) → tree_of (value.Num n) ≡ NumTree n
tree-num n = tree-layer (value.Num n) _ (outs-Num n)

pub tree-null : tree_of value.Null ≡ NullTree
tree-null = tree-layer value.Null _ outs-Null

pub tree-to : (address : ℕ) → tree_of (value.To address) ≡ ToTree address
tree-to address = tree-layer (value.To address) _ (outs-To address)

pub tree-raw : (bytes : List ℕ) → tree_of (value.Raw bytes) ≡ RawTree bytes
tree-raw bytes = tree-layer (value.Raw bytes) _ (outs-Raw bytes)

pub tree-rec : (parts : _) → tree_of (value.Rec parts) ≡ RecTree (trees (map tree_of parts.items))
tree-rec parts = tree-layer (value.Rec parts) _ (outs-Rec parts)

pub tree-row : (parts : _) → tree_of (value.Row parts) ≡ RowTree (trees (map tree_of parts.items))
tree-row parts = tree-layer (value.Row parts) _ (outs-Row parts)

pub tree-alt : (member : Option ℕ) (v : Value) → tree_of (value.Alt member v) ≡ AltTree member (tree_of v)
tree-alt member v = tree-layer (value.Alt member v) _ (outs-Alt member v)
