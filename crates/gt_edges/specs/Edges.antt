-- The edges of a value: its pointers that are not null, in the order of their places. A block is named by its address.
use Rattle.std.specs.Prelude.{◌≡◌, ◌≤◌, ◌<◌, ℕ, ◌+◌, ◌/◌, ◌^◌, Bool, false, not, List, Option, Some, length, take, slice_get, filter_map}
use Rattle.std.specs.List.{filter}
use Rattle.gt_types.specs.declared.program.Root.{Root}
use Rattle.gt_types.specs.declared.program.Program.{Program}
use Rattle.gt_layout.specs.declared.planes.FieldSpot.{FieldSpot}
use Rattle.gt_layout.specs.declared.planes.Layouts.{Layouts}
use Rattle.gt_layout.specs.Places.{begin_at}
use Rattle.gt_space.specs.Range.{Range, IsInside, IsSpace, bytes_at, statics_start}
use Rattle.gt_tree.specs.Trees.{Tree, Trees, tree_at}
use Rattle.gt_tree.specs.Blocks.{Kind, Block, Blocks, element_type}
use Rattle.gt_tree.specs.Scopes.{◌then◌}
use Rattle.gt_tree.specs.Leaves.{Leaf, HasLeaves, target_of}
use Rattle.gt_tree.specs.FixedLaws.{MayHold, AreAddresses, IsValueOf, AreStaticsOf}
use Rattle.gt_value.specs.Bytes.{itself, Takes}
use Rattle.gt_walk.specs.declared.tables.Tables.{Tables}
use Rattle.gt_walk.specs.Rows.{Edge, edge, walk_edges, frame_at, MOST_NESTED}
use Rattle.gt_edges.specs.Numbers.{walk_of, walked}

-- ---- edges

-- the edge of a pointer to a block: where it lies, the block, the walk of what the block holds, and how many elements are walked
abbrev pub edge_to : Program → (place target : ℕ) → Block → Edge
edge_to program place target b = edge place target (walk_of program b.kind) (walked b.kind b.count)

-- the edge of a leaf of a value that begins at an address: none of a number, and none of null
abbrev pub edge_of : Program → Blocks → ℕ → Leaf → Option Edge
edge_of program blocks address l = target_of l then λ id. blocks id then λ b. Some (edge_to program (address + l.at / 8) id b)

-- The edges of the leaves of a value that begins at an address, in their order. What is opaque, and what is no part of the value, has no
-- pointers among its leaves.
abbrev pub edges_at : Program → Blocks → ℕ → List Leaf → List Edge
edges_at program blocks address leaves = filter_map (edge_of program blocks address) leaves

-- ---- elements of blocks

-- no block has 2^32 elements or more
abbrev pub HaveFew : Blocks → Type 0
HaveFew blocks = (id : ℕ) (b : Block) → blocks id ≡ Some b → b.count < 2 ^ 32

-- At the bytes that stand for an element of a block, with room for so many at its end, the walk of what the block holds gives the edges
-- of the element.
abbrev pub GivesElements : Program → Layouts → Tables → Type 0
GivesElements program layouts tables =
    (blocks : Blocks) (statics : Trees) (kind : Kind) (capacity size : ℕ) (range : Range) (address : ℕ) (value : Tree) → IsSpace range → AreAddresses blocks itself → HaveFew blocks → MayHold program kind → capacity < 2 ^ 32
    → Takes program layouts capacity (element_type program kind) size → 1 ≤ address → IsInside range address size
    → (is : IsValueOf program layouts blocks statics kind capacity itself 0 (bytes_at range address size) value)
    → walk_edges tables range MOST_NESTED (walk_of program kind) (frame_at address) ≡ edges_at program blocks address is.leaves

-- ---- roots

-- a root has a walk unless it is deletable
abbrev pub has_walk : Root → Bool
has_walk r = not r.deletable

-- the walk of a root: they stand in the order of the roots that are not deletable
abbrev pub root_walk : Program → Tables → ℕ → Option ℕ
root_walk program tables place = slice_get tables.roots (length (filter has_walk (take place program.roots)))

-- Where the bytes from the lowest address on stand for the roots, the walk of a root that is not deletable gives the edges of the root.
abbrev pub GivesRoots : Program → Layouts → Tables → Type 0
GivesRoots program layouts tables =
    (blocks : Blocks) (range : Range) (values : Trees) (place walk : ℕ) (r : Root) (spot : FieldSpot) (tree : Tree) (leaves : List Leaf) → IsSpace range → AreAddresses blocks itself → HaveFew blocks
    → range.start ≡ statics_start layouts.statics.size → IsInside range range.start layouts.statics.size
    → AreStaticsOf program layouts blocks itself (bytes_at range range.start layouts.statics.size) values
    → slice_get program.roots place ≡ Some r → r.deletable ≡ false → root_walk program tables place ≡ Some walk → slice_get layouts.statics.fields place ≡ Some spot
    → tree_at values place ≡ Some tree → HasLeaves program layouts.structures (begin_at spot) r.ty tree leaves
    → walk_edges tables range MOST_NESTED walk (frame_at 0) ≡ edges_at program blocks range.start leaves
