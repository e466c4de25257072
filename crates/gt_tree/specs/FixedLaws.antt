-- What the bytes that stand for leaves say of each leaf, and of whole values.
use Rattle.std.specs.Prelude.{◌≡◌, ◌≤◌, ◌<◌, ℕ, ◌+◌, ◌*◌, ◌/◌, ◌%◌, ◌^◌, Bool, ℤ, IsTrue, List, length, Some, slice_index, All}
use Rattle.gt_types.specs.declared.program.Program.{Program}
use Rattle.gt_types.specs.Paths.{MayStand}
use Rattle.gt_layout.specs.declared.planes.Layouts.{Layouts}
use Rattle.gt_tree.specs.Numbers.{has_room, two's_complement}
use Rattle.gt_tree.specs.Trees.{Tree, Trees, count}
use Rattle.gt_tree.specs.Blocks.{Kind, Nodes, Pointers, Block, Blocks, element_type}
use Rattle.gt_tree.specs.Scopes.{outside}
use Rattle.gt_tree.specs.Fits.{Fits, EachFits, StaticsFit, root_types}
use Rattle.gt_tree.specs.Leaves.{Leaf, HasLeaves, FieldsHaveLeaves, EachHasLeaves, content_bits, bit_of, Stand}
use Rattle.gt_tree.specs.LeafLaws.{LieInOrder, IsWidth}

-- a bit of bytes, counted from the lowest of each byte
abbrev pub bit_in : List ℕ → ℕ → Bool
bit_in bytes i = bit_of (slice_index bytes (i / 8)) (i % 8)

-- the bits at the place of a leaf are those of what it holds
abbrev pub IsHeldAt : (ℕ → ℕ) → (ℕ → Bool) → Leaf → Type 0
IsHeldAt address bits l = (i : ℕ) → i < l.width → bits (l.at + i) ≡ bit_of (content_bits address l.width l.content) i

-- where no two leaves share a bit, and all lie inside the bytes that stand for them, each is read at its place
abbrev pub LeavesAreRead : Type 0
LeavesAreRead = (address : ℕ → ℕ) (from end : ℕ) (leaves : List Leaf) (bytes : List ℕ) → LieInOrder from end leaves → end ≤ 8 * length bytes → Stand address leaves bytes
    → All (IsHeldAt address (bit_in bytes)) leaves

-- numbers that have room in as many bits, with a sign or without, and have the same bits are one number
abbrev pub NumbersAreFixed : Type 0
NumbersAreFixed = (signed : Bool) (width : ℕ) (a b : ℤ) → 1 ≤ width → IsTrue (has_room signed width a) → IsTrue (has_room signed width b)
    → ((i : ℕ) → i < width → bit_of (two's_complement width a) i ≡ bit_of (two's_complement width b) i) → a ≡ b

-- blocks have addresses of 64 bits: none is null, and no two blocks have one
pub record AreAddresses (blocks : Blocks) (address : ℕ → ℕ) : Type 0 where
  pub not_null : (id : ℕ) (b : Block) → blocks id ≡ Some b → 0 < address id
  pub small : (id : ℕ) (b : Block) → blocks id ≡ Some b → address id < 2 ^ 64
  pub apart : (id other : ℕ) (b c : Block) → blocks id ≡ Some b → blocks other ≡ Some c → address id ≡ address other → id ≡ other

-- ---- values

-- what a block may hold: the structures, and those that pointers name, may stand alone
abbrev pub MayHold : Program → Kind → Type 0
MayHold program (Nodes node) = MayStand program node
MayHold program (Pointers node) = MayStand program node
MayHold program kind = Unit {0}

-- a value of an element of a block, for which these bytes stand from a bit on
pub record IsValueOf (program : Program) (layouts : Layouts) (blocks : Blocks) (statics : Trees) (kind : Kind) (capacity : ℕ) (address : ℕ → ℕ) (at : ℕ) (bytes : List ℕ) (value : Tree) : Type 0 where
  pub leaves : List Leaf
  pub fits : Fits program blocks capacity (outside statics) (element_type program kind) value
  pub has : HasLeaves program layouts.structures at (element_type program kind) value leaves
  pub stand : Stand address leaves bytes

-- values of elements of a block, each so many bits after the one before it, for which these bytes stand from a bit on
pub record AreValuesOf (program : Program) (layouts : Layouts) (blocks : Blocks) (statics : Trees) (kind : Kind) (capacity stride : ℕ) (address : ℕ → ℕ) (at : ℕ) (bytes : List ℕ) (values : Trees) : Type 0 where
  pub leaves : List Leaf
  pub fit : EachFits program blocks capacity (outside statics) (element_type program kind) values
  pub have : EachHasLeaves program layouts.structures stride at (element_type program kind) values leaves
  pub stand : Stand address leaves bytes

-- values of the roots, each at its place, for which these bytes stand
pub record AreStaticsOf (program : Program) (layouts : Layouts) (blocks : Blocks) (address : ℕ → ℕ) (bytes : List ℕ) (values : Trees) : Type 0 where
  pub leaves : List Leaf
  pub fit : StaticsFit program blocks values
  pub have : FieldsHaveLeaves program layouts.structures 0 (root_types program) layouts.statics.fields values leaves
  pub stand : Stand address leaves bytes

-- two values of an element for which the same bytes stand, as many as it has, are one value
abbrev pub ValueIsFixed : Program → Layouts → Type 0
ValueIsFixed program layouts = (blocks : Blocks) (statics : Trees) (kind : Kind) (capacity width at : ℕ) (address : ℕ → ℕ) (bytes : List ℕ) (a b : Tree)
    → MayHold program kind → AreAddresses blocks address → IsWidth program layouts.structures capacity (element_type program kind) width → at + width ≤ 8 * length bytes
    → IsValueOf program layouts blocks statics kind capacity address at bytes a → IsValueOf program layouts blocks statics kind capacity address at bytes b → a ≡ b

-- so it is for as many elements, one after another
abbrev pub ElementsAreFixed : Program → Layouts → Type 0
ElementsAreFixed program layouts = (blocks : Blocks) (statics : Trees) (kind : Kind) (capacity width at : ℕ) (address : ℕ → ℕ) (bytes : List ℕ) (a b : Trees)
    → MayHold program kind → AreAddresses blocks address → IsWidth program layouts.structures capacity (element_type program kind) width → count a ≡ count b → at + count a * width ≤ 8 * length bytes
    → AreValuesOf program layouts blocks statics kind capacity width address at bytes a → AreValuesOf program layouts blocks statics kind capacity width address at bytes b → a ≡ b

-- and for the static record
abbrev pub RecordIsFixed : Program → Layouts → Type 0
RecordIsFixed program layouts = (blocks : Blocks) (address : ℕ → ℕ) (bytes : List ℕ) (a b : Trees) → AreAddresses blocks address → layouts.statics.size ≤ length bytes
    → AreStaticsOf program layouts blocks address bytes a → AreStaticsOf program layouts blocks address bytes b → a ≡ b
