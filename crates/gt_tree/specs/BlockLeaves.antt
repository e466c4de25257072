-- The leaves of a whole block and how many bytes it needs; the edges of a value; and that a union has one common structure.
use Rattle.std.specs.Prelude.{◌≡◌, ℕ, ◌*◌, List}
use Rattle.gt_types.specs.declared.types.TypeId.{TypeId}
use Rattle.gt_types.specs.declared.types.Ty.{Ty}
use Rattle.gt_types.specs.declared.program.Structure.{Structure}
use Rattle.gt_types.specs.declared.program.Program.{Program}
use Rattle.gt_types.specs.Contains.{HasStructure}
use Rattle.gt_types.specs.Unions.{IsCommon}
use Rattle.gt_layout.specs.declared.planes.Plane.{Plane}
use Rattle.gt_layout.specs.declared.planes.Layouts.{Layouts}
use Rattle.gt_tree.specs.Trees.{Tree, Row, Trees, edges}
use Rattle.gt_tree.specs.Blocks.{Kind, Blocks, element_type}
use Rattle.gt_tree.specs.Scopes.{Scope}
use Rattle.gt_tree.specs.Fits.{Fits, BlockFits}
use Rattle.gt_tree.specs.Leaves.{Leaf, HasLeaves, EachHasLeaves, targets}
use Rattle.gt_tree.specs.LeafLaws.{IsWidth, LieInOrder}

-- A block of so many elements at a capacity needs these bytes, and its value has these leaves: its elements lie one after another,
-- each in the width of their type.
pub record BlockHasLeaves (program : Program) (planes : List Plane) (kind : Kind) (n capacity : ℕ) (value : Tree) (bytes : ℕ) (leaves : List Leaf) : Type 0 where
  pub trees : Trees
  pub row : value ≡ Row trees
  pub width : ℕ
  pub wide : IsWidth program planes capacity (element_type program kind) width
  pub needs : 8 * bytes ≡ n * width
  pub each : EachHasLeaves program planes width 0 (element_type program kind) trees leaves

-- the leaves of a block stand in order, apart, and inside the bytes that it needs
abbrev pub BlockIsPlaced : Program → Layouts → Type 0
BlockIsPlaced program layouts =
    (blocks : Blocks) (statics : Trees) (kind : Kind) (n capacity : ℕ) (value : Tree) (bytes : ℕ) (leaves : List Leaf) → BlockFits program blocks statics kind n capacity value
    → BlockHasLeaves program layouts.structures kind n capacity value bytes leaves → LieInOrder 0 (8 * bytes) leaves

-- a union has at most one common structure
abbrev pub CommonIsOne : Program → Type 0
CommonIsOne program = (node : TypeId) (s : Structure) (common other : TypeId) → HasStructure program node s → IsCommon program s common → IsCommon program s other → common ≡ other

-- the edges of a value that fits are the names in its leaves, in the order of their places
abbrev pub EdgesAreTargets : Program → Layouts → Type 0
EdgesAreTargets program layouts =
    (blocks : Blocks) (capacity : ℕ) (scope : Scope) (type : Ty) (tree : Tree) (at : ℕ) (leaves : List Leaf) → Fits program blocks capacity scope type tree
    → HasLeaves program layouts.structures at type tree leaves → edges tree ≡ targets leaves
