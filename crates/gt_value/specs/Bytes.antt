-- Values in the bytes of a space. A block is named by its address there, so that a pointer holds the name of what it names.
use Rattle.std.specs.Prelude.{◌≡◌, ℕ, ◌*◌, List, map}
use Rattle.gt_types.specs.declared.types.Ty.{Ty}
use Rattle.gt_types.specs.declared.program.Program.{Program}
use Rattle.gt_layout.specs.declared.planes.Layouts.{Layouts}
use Rattle.gt_space.specs.Range.{Range, IsInside, bytes_at, with_bytes}
use Rattle.gt_tree.specs.Trees.{Tree, Trees}
use Rattle.gt_tree.specs.Blocks.{Kind, Blocks, element_type}
use Rattle.gt_tree.specs.Scopes.{outside}
use Rattle.gt_tree.specs.Fits.{Fits, StaticsFit}
use Rattle.gt_tree.specs.Leaves.{Leaf, HasLeaves, FieldsHaveLeaves}
use Rattle.gt_tree.specs.LeafLaws.{IsWidth, AreBytesOf}
use Rattle.gt_tree.specs.FixedLaws.{MayHold, AreAddresses, IsValueOf, AreStaticsOf}

-- a block is named by its address
abbrev pub itself : ℕ → ℕ
itself address = address

-- the type of the elements of a block
abbrev pub IsElement : Program → Ty → Type 0
IsElement program type = (kind : Kind) × MayHold program kind × (type ≡ element_type program kind)

-- a value of an element with room for so many at its end takes so many bytes
abbrev pub Takes : Program → Layouts → ℕ → Ty → ℕ → Type 0
Takes program layouts capacity type size = IsWidth program layouts.structures capacity type (8 * size)

-- the bytes that a value of this type takes lie in the space
abbrev pub IsRoomFor : Program → Layouts → ℕ → Ty → Range → ℕ → Type 0
IsRoomFor program layouts capacity type range address = (size : ℕ) → Takes program layouts capacity type size → IsInside range address size

-- a value fits a type at a capacity, beside some blocks, none of which lies at null: what is stored can be read again
pub record FitsSome (program : Program) (capacity : ℕ) (type : Ty) (value : Tree) : Type 0 where
  pub blocks : Blocks
  pub statics : Trees
  pub addresses : AreAddresses blocks itself
  pub fits : Fits program blocks capacity (outside statics) type value

-- the static record has these values, beside some such blocks
pub record StaticsFitSome (program : Program) (values : Trees) : Type 0 where
  pub blocks : Blocks
  pub addresses : AreAddresses blocks itself
  pub fit : StaticsFit program blocks values

-- The bytes at an address are those that stand for a value of this type, and all others are as before.
abbrev pub IsStored : Program → Layouts → ℕ → Ty → Tree → Range → ℕ → Range → Type 0
IsStored program layouts capacity type value old address new =
    (size : ℕ) (leaves : List Leaf) (form : List ℕ) → Takes program layouts capacity type size → HasLeaves program layouts.structures 0 type value leaves
    → AreBytesOf itself leaves size form → new ≡ with_bytes old address form

-- the bytes of the static record, from the lowest address on, are those that stand for these values, and all others are as before
abbrev pub AreStaticsStored : Program → Layouts → Trees → Range → Range → Type 0
AreStaticsStored program layouts values old new =
    (leaves : List Leaf) (form : List ℕ) → FieldsHaveLeaves program layouts.structures 0 (map (λ r. r.ty) program.roots) layouts.statics.fields values leaves
    → AreBytesOf itself leaves layouts.statics.size form → new ≡ with_bytes old old.start form

-- the bytes at an address stand for a value of this type
pub record StandsFor (program : Program) (layouts : Layouts) (capacity : ℕ) (type : Ty) (range : Range) (address : ℕ) (value : Tree) : Type 0 where
  pub kind : Kind
  pub held : MayHold program kind
  pub of_kind : type ≡ element_type program kind
  pub size : ℕ
  pub takes : Takes program layouts capacity type size
  pub blocks : Blocks
  pub statics : Trees
  pub addresses : AreAddresses blocks itself
  pub is : IsValueOf program layouts blocks statics kind capacity itself 0 (bytes_at range address size) value

-- the bytes from the lowest address on stand for these values of the static record
pub record StandForStatics (program : Program) (layouts : Layouts) (range : Range) (values : Trees) : Type 0 where
  pub blocks : Blocks
  pub addresses : AreAddresses blocks itself
  pub are : AreStaticsOf program layouts blocks itself (bytes_at range range.start layouts.statics.size) values
