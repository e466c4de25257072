-- The bytes that stand for a value.
use Rattle.std.specs.Prelude.{ℕ, List}
use Rattle.gt_types.specs.declared.types.Ty.{Ty}
use Rattle.gt_tree.specs.Trees.{Tree}
use Rattle.gt_tree.specs.Leaves.{Leaf, HasLeaves, Stand}
use Rattle.gt_value.specs.Bytes.{itself}
use Rattle.value_notation.specs.declared.samples.Sample.{Sample}

-- bytes stand for a value of a type that begins at the first of them: they stand for its leaves
pub record AreBytesFor (on : Sample) (type : Ty) (value : Tree) (bytes : List ℕ) : Type 0 where
  pub leaves : List Leaf
  pub of_value : HasLeaves on.program on.layouts.structures 0 type value leaves
  pub stand : Stand itself leaves bytes
