-- What follows for the leaves of all values.
use Rattle.std.specs.Prelude.{◌≡◌, ◌≤◌, ◌<◌, ℕ, ◌+◌, ◌*◌, ◌^◌, List, length, Option, Some, None, All, AllPairs, Contains}
use Rattle.gt_types.specs.declared.expressions.Expr.{Expr}
use Rattle.gt_types.specs.declared.types.TypeId.{TypeId}
use Rattle.gt_types.specs.declared.types.Ty.{Ty, out-Ty}
use Rattle.gt_types.specs.declared.types.Ty.TheOpen as part
use Rattle.gt_types.specs.declared.types.Ty.TheVariants as ty
use Rattle.gt_types.specs.declared.program.Field.{Field}
use Rattle.gt_types.specs.declared.program.Structure.{Structure}
use Rattle.gt_types.specs.declared.program.Root.{Root}
use Rattle.gt_types.specs.declared.program.Program.{Program}
use Rattle.gt_types.specs.Contains.{HasStructure}
use Rattle.gt_types.specs.Tails.{elements_of}
use Rattle.gt_layout.specs.declared.planes.Plane.{Plane}
use Rattle.gt_layout.specs.declared.planes.Layouts.{Layouts}
use Rattle.gt_layout.specs.Storages.{extent_of}
use Rattle.gt_layout.specs.Capacity.{SizeAt}
use Rattle.gt_tree.specs.Trees.{Tree, Trees, count}
use Rattle.gt_tree.specs.Blocks.{Kind, Blocks, element_type}
use Rattle.gt_tree.specs.Scopes.{Scope}
use Rattle.gt_tree.specs.Fits.{Fits, EachFits, StaticsFit, root_types}
use Rattle.gt_tree.specs.Leaves.{Leaf, HasLeaves, FieldsHaveLeaves, EachHasLeaves, AreApart, LiesBetween, Stand, content_bits}

-- ---- one list of leaves

-- exactly one thing meets a condition
abbrev pub OfExactlyOne : {X : Type 0} → (X → Type 0) → Type 0
OfExactlyOne {X} fact = (x : X) × fact x × ((other : X) → fact other → other ≡ x)

-- a value that fits a type has one list of leaves at each bit
abbrev pub ValueHasOneList : Program → Layouts → Type 0
ValueHasOneList program layouts = (blocks : Blocks) (capacity : ℕ) (scope : Scope) (type : Ty) (tree : Tree) (at : ℕ) → Fits program blocks capacity scope type tree
    → OfExactlyOne (HasLeaves program layouts.structures at type tree)

-- elements that fit a type, each so many bits after the one before it, have one list of leaves
abbrev pub ElementsHaveOneList : Program → Layouts → Type 0
ElementsHaveOneList program layouts = (blocks : Blocks) (capacity : ℕ) (scope : Scope) (type : Ty) (trees : Trees) (stride at : ℕ) → EachFits program blocks capacity scope type trees
    → OfExactlyOne (EachHasLeaves program layouts.structures stride at type trees)

-- the static record has one list of leaves
abbrev pub RecordHasOneList : Program → Layouts → Type 0
RecordHasOneList program layouts = (blocks : Blocks) (statics : Trees) → StaticsFit program blocks statics
    → OfExactlyOne (FieldsHaveLeaves program layouts.structures 0 (root_types program) layouts.statics.fields statics)

-- ---- no two leaves share a bit

-- leaves stand in the order of their places, no two have a bit in common, and all lie between two bits
pub record LieInOrder (from end : ℕ) (leaves : List Leaf) : Type 0 where
  pub rising : AllPairs (λ a b. a.at + a.width ≤ b.at) leaves
  pub apart : AllPairs AreApart leaves
  pub inside : All (LiesBetween from end) leaves

-- the types of values in a program: those of fields, of roots, of the elements of blocks, and of the elements of arrays
pub data IsTypeIn (program : Program) : Ty → Type 0 where
  of_field : (node : TypeId) (s : Structure) (f : Field) → HasStructure program node s → Contains s.fields f → IsTypeIn program f.ty
  of_root : (r : Root) → Contains program.roots r → IsTypeIn program r.ty
  of_block : (kind : Kind) → IsTypeIn program (element_type program kind)
  of_array : {type elem : Ty} {n : ℕ} → IsTypeIn program type → out-Ty type ≡ part.Arr n elem → IsTypeIn program elem
  of_tail : {type elem : Ty} {length : Expr} → IsTypeIn program type → out-Ty type ≡ part.Tail length elem → IsTypeIn program elem

-- the bytes of as many elements as there is room for, where a type is an array with a length, else of the type
abbrev pub bytes_with : List Plane → ℕ → Ty → Option Ty → ℕ
bytes_with planes capacity type (Some elem) = capacity * (extent_of planes elem).size
bytes_with planes capacity type None = (extent_of planes type).size

-- the bits in which a value of a type lies at a capacity: a structure has its size, and a bit-field its own bits
abbrev pub IsWidth : Program → List Plane → ℕ → Ty → ℕ → Type 0
IsWidth program planes capacity (ty.Node node desc) width = (size : ℕ) × SizeAt program planes capacity node size × (width ≡ 8 * size)
IsWidth program planes capacity (ty.Bits unit count) width = width ≡ count
IsWidth program planes capacity type width = width ≡ 8 * bytes_with planes capacity type (elements_of type)

-- the leaves of a value lie in its width
abbrev pub ValueIsPlaced : Program → Layouts → Type 0
ValueIsPlaced program layouts = (blocks : Blocks) (capacity : ℕ) (scope : Scope) (type : Ty) (width at : ℕ) (tree : Tree) (leaves : List Leaf) → IsTypeIn program type
    → IsWidth program layouts.structures capacity type width → Fits program blocks capacity scope type tree
    → HasLeaves program layouts.structures at type tree leaves → LieInOrder at (at + width) leaves

-- the leaves of values of one type, each so wide after the one before it, lie in as many widths
abbrev pub ElementsArePlaced : Program → Layouts → Type 0
ElementsArePlaced program layouts = (blocks : Blocks) (capacity : ℕ) (scope : Scope) (type : Ty) (width at : ℕ) (trees : Trees) (leaves : List Leaf) → IsTypeIn program type
    → IsWidth program layouts.structures capacity type width → EachFits program blocks capacity scope type trees
    → EachHasLeaves program layouts.structures width at type trees leaves → LieInOrder at (at + count trees * width) leaves

-- the leaves of the static record lie in its size
abbrev pub RecordIsPlaced : Program → Layouts → Type 0
RecordIsPlaced program layouts = (blocks : Blocks) (statics : Trees) (leaves : List Leaf) → StaticsFit program blocks statics
    → FieldsHaveLeaves program layouts.structures 0 (root_types program) layouts.statics.fields statics leaves → LieInOrder 0 (8 * layouts.statics.size) leaves

-- ---- bytes

-- so many bytes that stand for leaves
pub record AreBytesOf (address : ℕ → ℕ) (leaves : List Leaf) (n : ℕ) (bytes : List ℕ) : Type 0 where
  pub long : length bytes ≡ n
  pub small : All (λ byte. byte < 256) bytes
  pub stand : Stand address leaves bytes

-- leaves stand as exactly one list of so many bytes
abbrev pub HasOneForm : Type 0
HasOneForm = (address : ℕ → ℕ) (leaves : List Leaf) (n : ℕ) → OfExactlyOne (AreBytesOf address leaves n)

-- ---- sizes

-- each structure has exactly one size at each capacity
abbrev pub SizesAreOne : Program → Layouts → Type 0
SizesAreOne program layouts = (capacity : ℕ) (node : TypeId) (s : Structure) → HasStructure program node s → OfExactlyOne (SizeAt program layouts.structures capacity node)

-- ---- contents

-- what a leaf holds has room in its bits
abbrev pub HasItsRoom : (ℕ → ℕ) → Leaf → Type 0
HasItsRoom address l = content_bits address l.width l.content < 2 ^ l.width

-- so has each leaf of a value, where addresses have 64 bits
abbrev pub ValueHasRoom : Program → Layouts → Type 0
ValueHasRoom program layouts = (blocks : Blocks) (capacity : ℕ) (scope : Scope) (type : Ty) (tree : Tree) (at : ℕ) (leaves : List Leaf) (address : ℕ → ℕ) → ((id : ℕ) → address id < 2 ^ 64)
    → Fits program blocks capacity scope type tree → HasLeaves program layouts.structures at type tree leaves → All (HasItsRoom address) leaves

-- and of elements, one after another
abbrev pub ElementsHaveRoom : Program → Layouts → Type 0
ElementsHaveRoom program layouts = (blocks : Blocks) (capacity : ℕ) (scope : Scope) (type : Ty) (trees : Trees) (stride at : ℕ) (leaves : List Leaf) (address : ℕ → ℕ) → ((id : ℕ) → address id < 2 ^ 64)
    → EachFits program blocks capacity scope type trees → EachHasLeaves program layouts.structures stride at type trees leaves → All (HasItsRoom address) leaves

-- and of the static record
abbrev pub RecordHasRoom : Program → Layouts → Type 0
RecordHasRoom program layouts = (blocks : Blocks) (statics : Trees) (leaves : List Leaf) (address : ℕ → ℕ) → ((id : ℕ) → address id < 2 ^ 64) → StaticsFit program blocks statics
    → FieldsHaveLeaves program layouts.structures 0 (root_types program) layouts.statics.fields statics leaves → All (HasItsRoom address) leaves
