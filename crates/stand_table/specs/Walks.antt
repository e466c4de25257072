-- The leaves of a value as plain data.
use Rattle.std.specs.Prelude.{◌≡◌, ℕ, ◌*◌, List, Option, Some, None, map}
use Rattle.std.specs.List.{filter}
use Rattle.gt_types.specs.declared.types.TypeId.{TypeId}
use Rattle.gt_types.specs.declared.types.Ty.{Ty}
use Rattle.gt_types.specs.declared.types.Ty.TheVariants as ty
use Rattle.gt_types.specs.declared.program.Field.{Field}
use Rattle.gt_layout.specs.declared.planes.FieldSpot.{FieldSpot}
use Rattle.gt_layout.specs.Storages.{extent_of}
use Rattle.gt_tree.specs.Trees.{Tree, Null, To}
use Rattle.gt_tree.specs.Fits.{types_of}
use Rattle.gt_tree.specs.Leaves as tree
use Rattle.gt_tree.specs.Leaves.{HasLeaves, FieldsHaveLeaves, EachHasLeaves, is_number}
use Rattle.gt_value.specs.declared.values.Value.{Value}
use Rattle.gt_value.specs.Values.{trees, tree_of}
use Rattle.value_notation.specs.declared.samples.Sample.{Sample}
use Rattle.stand_table.specs.declared.leaves.Leaf.{Leaf}
use Rattle.stand_table.specs.Leaves.{leaves_in}

-- plain data are the leaves of a value of a type that begins at a bit
abbrev pub AreLeaves : Sample → ℕ → Ty → Tree → List Leaf → Type 0
AreLeaves on at type value leaves = HasLeaves on.program on.layouts.structures at type value (leaves_in leaves)

-- they are those of values of fields at their places in a structure
abbrev pub AreOfFields : Sample → ℕ → List Field → List FieldSpot → List Value → List Leaf → Type 0
AreOfFields on at fields spots values leaves = FieldsHaveLeaves on.program on.layouts.structures at (types_of fields) spots (trees (map tree_of values)) (leaves_in leaves)

-- they are those of elements one after another
abbrev pub AreOfElements : Sample → ℕ → Ty → List Value → List Leaf → Type 0
AreOfElements on at elem values leaves =
    EachHasLeaves on.program on.layouts.structures (8 * (extent_of on.layouts.structures elem).size) at elem (trees (map tree_of values)) (leaves_in leaves)

-- they are those of a value of the common structure of a union, without the pointers
pub record AreOfCommon (on : Sample) (at : ℕ) (common : TypeId) (value : Tree) (leaves : List Leaf) : Type 0 where
  pub inner : List tree.Leaf
  pub of_value : HasLeaves on.program on.layouts.structures at (ty.Node common None) value inner
  pub numbers : leaves_in leaves ≡ filter is_number inner

-- a pointer as a value: null, or to the block at an address
abbrev pub pointer_tree : Option ℕ → Tree
pointer_tree None = Null
pointer_tree (Some address) = To address
