-- What the values of the program mean: each is a tree.
use Rattle.std.specs.Prelude.{List, [], ◌∷◌}
use Rattle.gt_tree.specs.Trees.{Tree, Num as NumTree, Null as NullTree, To as ToTree, Raw as RawTree, Rec as RecTree, Alt as AltTree, Row as RowTree, Trees, End, And}
use Rattle.gt_value.specs.declared.values.Value.{Value}
use Rattle.gt_value.specs.declared.values.Value.TheOpen.{Value-F, Num, Null, To, Raw, Rec, Alt, Row}
use Rattle.gt_value.specs.declared.values.Value.TheFolds.{fold-Value}

-- trees one after another
abbrev pub trees : List Tree → Trees
trees [] = End
trees (x ∷ xs) = And x (trees xs)

abbrev pub tree_step : Value-F Tree → Tree
tree_step (Num n) = NumTree n
tree_step Null = NullTree
tree_step (To address) = ToTree address
tree_step (Raw bytes) = RawTree bytes
tree_step (Rec parts) = RecTree (trees parts.items)
tree_step (Alt member value) = AltTree member value
tree_step (Row parts) = RowTree (trees parts.items)

-- the tree of a value, in which a block is named by its address
abbrev pub tree_of : Value → Tree
tree_of = fold-Value Tree tree_step
