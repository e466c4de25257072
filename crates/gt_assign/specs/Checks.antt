-- No promise: whether a leaf that can be written is there.
use Rattle.std.specs.Prelude.{Bool, false, Option, Some, None}
use Rattle.gt_tree.specs.Trees.{Tree, is_word}

-- a part is there, and is a leaf that can be written
abbrev pub is_word_there : Option Tree → Bool
is_word_there (Some tree) = is_word tree
is_word_there None = false
