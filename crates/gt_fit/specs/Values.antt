-- The values after references.
use Rattle.std.specs.Prelude.{Option, Some, None}
use Rattle.gt_tree.specs.Trees.{Tree}
use Rattle.gt_tree.specs.Scopes.{Typed, typed}
use Rattle.gt_value.specs.declared.values.Value.{Value}
use Rattle.gt_value.specs.Values.{tree_of}
use Rattle.gt_fit.specs.declared.paths.TypedAt.{TypedAt}

abbrev pub maybe_tree : Option Value → Option Tree
maybe_tree (Some value) = Some (tree_of value)
maybe_tree None = None

abbrev pub typed_of : Option TypedAt → Option Typed
typed_of (Some at) = Some (typed at.ty.now (tree_of at.value.now))
typed_of None = None
