-- The leaves for which plain data stand.
use Rattle.std.specs.Prelude.{◌≤◌, List, map}
use Rattle.gt_tree.specs.Leaves as tree
use Rattle.stand_table.specs.declared.leaves.Content.{Content}
use Rattle.stand_table.specs.declared.leaves.Content.TheVariants.{Number, Pointer}
use Rattle.stand_table.specs.declared.leaves.Leaf.{Leaf}

abbrev pub content_of : Content → tree.Content
content_of (Number n) = tree.Number n
content_of (Pointer name) = tree.Pointer name

-- the leaf that plain data are
abbrev pub leaf_of : Leaf → tree.Leaf
leaf_of l = tree.leaf l.at l.width (content_of l.content)

abbrev pub leaves_in : List Leaf → List tree.Leaf
leaves_in leaves = map leaf_of leaves

-- a leaf has at most 64 bits
abbrev pub IsNarrow : Leaf → Type 0
IsNarrow l = l.width ≤ 64
