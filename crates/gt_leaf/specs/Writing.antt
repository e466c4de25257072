-- What the write of one leaf in place does, and when it is done.
use Rattle.std.specs.Prelude.{◌≡◌, ◌⊎◌, ℕ, ◌==◌, Bool, true, false, ◌&&◌, IsTrue, ℤ, List, Option, Some}
use Rattle.gt_types.specs.declared.expressions.Expr.{Expr}
use Rattle.gt_types.specs.declared.types.Ty.{Ty}
use Rattle.gt_types.specs.declared.types.Ty.TheVariants as ty
use Rattle.gt_types.specs.declared.program.Program.{Program}
use Rattle.gt_types.specs.Shapes.{is_pointer}
use Rattle.gt_layout.specs.declared.planes.Layouts.{Layouts}
use Rattle.gt_space.specs.Range.{Range, bytes_at}
use Rattle.gt_tree.specs.Numbers.{has_room}
use Rattle.gt_tree.specs.Trees.{Tree, Rec, Trees, with_part}
use Rattle.gt_tree.specs.Blocks.{Kind, Blocks, MayName, element_type}
use Rattle.gt_tree.specs.Scopes.{outside, eval_in}
use Rattle.gt_tree.specs.Reshapes.{LeadsToLeaf, Assigns, AssignsStatics}
use Rattle.gt_tree.specs.FixedLaws.{MayHold, AreAddresses, IsValueOf, AreStaticsOf}
use Rattle.gt_value.specs.declared.places.Holder.TheVariants as lies_in
use Rattle.gt_value.specs.declared.places.LeafContent.{LeafContent}
use Rattle.gt_value.specs.declared.places.LeafContent.TheVariants as content
use Rattle.gt_value.specs.declared.places.Place.{Place}
use Rattle.gt_value.specs.Bytes.{itself, Takes}
use Rattle.gt_value.specs.Places.{Part, PartLies, StaticPartLies, IsContentOf, IsPlaceOf, IsStaticPlaceOf}
use Rattle.gt_store.specs.Leaf.{IsLeafWritten, IsSameBut, MayBe}
use Rattle.gt_tree.specs.PathLaws.{has_room_in}
use Rattle.gt_leaf.specs.Unread.{Around, structures_on, structures_in_statics, IsUnread}

-- ---- values beside given blocks

-- the bytes at an address stand for a value of an element of a block, beside these blocks and roots
pub record StandsBeside (program : Program) (layouts : Layouts) (blocks : Blocks) (statics : Trees) (capacity : ℕ) (type : Ty) (range : Range) (address : ℕ) (value : Tree) : Type 0 where
  pub kind : Kind
  pub held : MayHold program kind
  pub of_kind : type ≡ element_type program kind
  pub size : ℕ
  pub takes : Takes program layouts capacity type size
  pub addresses : AreAddresses blocks itself
  pub is : IsValueOf program layouts blocks statics kind capacity itself 0 (bytes_at range address size) value

-- the bytes from the lowest address on stand for these values of the static record, beside these blocks
pub record StaticsStandBeside (program : Program) (layouts : Layouts) (blocks : Blocks) (range : Range) (values : Trees) : Type 0 where
  pub addresses : AreAddresses blocks itself
  pub are : AreStaticsOf program layouts blocks itself (bytes_at range range.start layouts.statics.size) values

-- ---- when a leaf is written in place

-- a number fits a type: it has room in its bits, and in eight bytes that are never scanned as a signed one of 64 bits
abbrev pub takes_number : Ty → ℤ → Bool
takes_number (ty.Opaque size align) n = (size == 8) && has_room true 64 n
takes_number type n = has_room_in type n

-- a leaf fits a type, by the values of expressions: a number, or a pointer that is null or names a block that it may
abbrev pub LeafFits : Blocks → (Expr → Option ℤ) → Ty → LeafContent → Type 0
LeafFits blocks value type (content.Num n) = IsTrue (takes_number type n)
LeafFits blocks value type content.Null = IsTrue (is_pointer type)
LeafFits blocks value type (content.To address) = MayName blocks value type address

-- a leaf is a number
abbrev pub is_number_leaf : LeafContent → Bool
is_number_leaf (content.Num n) = true
is_number_leaf leaf = false

-- a number for eight bytes that are never scanned has room in them, as a signed one of 64 bits
abbrev pub has_word : Ty → LeafContent → Bool
has_word (ty.Opaque size align) (content.Num n) = has_room true 64 n
has_word type leaf = true

-- a leaf may lie at a part: each union around it has an active member or it is a number, and it fits the type there
pub record MayLie (program : Program) (blocks : Blocks) (p : Part) (leaf : LeafContent) : Type 0 where
  pub active : (p.active ≡ true) ⊎ (is_number_leaf leaf ≡ true)
  pub fits : LeafFits blocks (eval_in program p.scope) p.type leaf

-- A leaf inside these structures can be looked at alone: each union around it has an active member or it is a number, no expression
-- reads it, and it is no number without room in eight bytes that are never scanned.
pub record IsAlone (program : Program) (around : Around) (p : Part) (leaf : LeafContent) : Type 0 where
  pub active : (p.active ≡ true) ⊎ (is_number_leaf leaf ≡ true)
  pub unread : IsUnread program around p.active p.holder
  pub word : IsTrue (has_word p.type leaf)

-- a leaf is not written in place: the path leads to no number and no pointer, or what lies there cannot be looked at alone
pub data IsLeft (program : Program) (around : Around) (Lies : Part → Type 0) (value : Tree) (path : List ℕ) (leaf : LeafContent) : Type 0 where
  nowhere : ¬ LeadsToLeaf value path → IsLeft program around Lies value path leaf
  not_alone : (p : Part) → Lies p → ¬ IsAlone program around p leaf → IsLeft program around Lies value path leaf

-- ---- what the write does

-- One leaf of an element was written in place: the bytes stand for the value in which this leaf alone is replaced, which is what the
-- write of the leaf makes; no bit has changed but those at its place.
pub record IsWrittenInPlace (program : Program) (layouts : Layouts) (blocks : Blocks) (statics : Trees) (capacity : ℕ) (type : Ty) (address : ℕ) (value : Tree) (path : List ℕ) (leaf : LeafContent) (old new : Range) : Type 0 where
  pub place : Place
  pub at : IsPlaceOf program layouts.structures (outside statics) lies_in.Element type old address value path place
  pub may : MayLie program blocks at.p leaf
  pub tree : Tree
  pub means : IsContentOf leaf tree
  pub assigns : Assigns program blocks statics capacity type value path tree (with_part value path tree)
  pub stands : StandsBeside program layouts blocks statics capacity type new address (with_part value path tree)
  pub written : IsLeafWritten place leaf old new
  pub same : IsSameBut old address stands.size new

-- one leaf of the static record was written in place
pub record IsStaticWrittenInPlace (program : Program) (layouts : Layouts) (blocks : Blocks) (values : Trees) (path : List ℕ) (leaf : LeafContent) (old new : Range) : Type 0 where
  pub place : Place
  pub at : IsStaticPlaceOf program layouts old values path place
  pub may : MayLie program blocks at.p leaf
  pub tree : Tree
  pub means : IsContentOf leaf tree
  pub others : Trees
  pub replaced : with_part (Rec values) path tree ≡ Rec others
  pub assigns : AssignsStatics program blocks values path tree others
  pub stand : StaticsStandBeside program layouts blocks new others
  pub written : IsLeafWritten place leaf old new
  pub same : IsSameBut old old.start layouts.statics.size new

-- ---- before the write

-- The leaf at a path of an element lies at this place, where this may be written; and whoever writes it there writes it in place.
pub record MayPut (program : Program) (layouts : Layouts) (blocks : Blocks) (statics : Trees) (capacity : ℕ) (type : Ty) (address : ℕ) (value : Tree) (path : List ℕ) (leaf : LeafContent) (range : Range) (place : Place) : Type 0 where
  pub at : IsPlaceOf program layouts.structures (outside statics) lies_in.Element type range address value path place
  pub may : MayLie program blocks at.p leaf
  pub holds : MayBe place.kind leaf
  pub writes : (new : Range) → IsLeafWritten place leaf range new → IsWrittenInPlace program layouts blocks statics capacity type address value path leaf range new

-- so in the static record
pub record MayPutStatic (program : Program) (layouts : Layouts) (blocks : Blocks) (values : Trees) (path : List ℕ) (leaf : LeafContent) (range : Range) (place : Place) : Type 0 where
  pub at : IsStaticPlaceOf program layouts range values path place
  pub may : MayLie program blocks at.p leaf
  pub holds : MayBe place.kind leaf
  pub writes : (new : Range) → IsLeafWritten place leaf range new → IsStaticWrittenInPlace program layouts blocks values path leaf range new

-- ---- the clauses

-- whatever value the bytes of an element stand for, the leaf there may be put at this place
abbrev pub MayPutElement : Program → Layouts → Blocks → ℕ → Ty → ℕ → List ℕ → LeafContent → Range → Place → Type 0
MayPutElement program layouts blocks capacity type address path leaf range place = (statics : Trees) (value : Tree) → StandsBeside program layouts blocks statics capacity type range address value
    → MayPut program layouts blocks statics capacity type address value path leaf range place

-- whatever value the bytes of an element stood for, the leaf was written in place
abbrev pub WritesElement : Program → Layouts → Blocks → ℕ → Ty → ℕ → List ℕ → LeafContent → Range → Range → Type 0
WritesElement program layouts blocks capacity type address path leaf old new = (statics : Trees) (value : Tree) → StandsBeside program layouts blocks statics capacity type old address value
    → IsWrittenInPlace program layouts blocks statics capacity type address value path leaf old new

-- the leaf at a path of a value cannot be looked at alone
abbrev pub LeavesLeaf : Program → Layouts → Trees → Ty → Tree → List ℕ → LeafContent → Type 0
LeavesLeaf program layouts statics type value path leaf =
    IsLeft program (structures_on program (Some type) path) (PartLies program layouts.structures (outside statics) lies_in.Element true 0 type value path) value path leaf

-- there is a leaf at the path of a value, and no value is what the write of this leaf makes of it
abbrev pub MisfitsLeaf : Program → Blocks → Trees → ℕ → Ty → Tree → List ℕ → LeafContent → Type 0
MisfitsLeaf program blocks statics capacity type value path leaf =
    LeadsToLeaf value path × ((tree new : Tree) → IsContentOf leaf tree → ¬ Assigns program blocks statics capacity type value path tree new)

-- whatever value the bytes of an element stand for, the leaf there cannot be looked at alone
abbrev pub LeavesElement : Program → Layouts → Blocks → ℕ → Ty → ℕ → List ℕ → LeafContent → Range → Type 0
LeavesElement program layouts blocks capacity type address path leaf range = (statics : Trees) (value : Tree) → StandsBeside program layouts blocks statics capacity type range address value
    → LeavesLeaf program layouts statics type value path leaf

-- whatever value the bytes of an element stand for, there is a leaf at the path, and no value fits with this one there
abbrev pub MisfitsElement : Program → Layouts → Blocks → ℕ → Ty → ℕ → List ℕ → LeafContent → Range → Type 0
MisfitsElement program layouts blocks capacity type address path leaf range = (statics : Trees) (value : Tree) → StandsBeside program layouts blocks statics capacity type range address value
    → MisfitsLeaf program blocks statics capacity type value path leaf

-- so for the static record
abbrev pub MayPutStatics : Program → Layouts → Blocks → List ℕ → LeafContent → Range → Place → Type 0
MayPutStatics program layouts blocks path leaf range place = (values : Trees) → StaticsStandBeside program layouts blocks range values → MayPutStatic program layouts blocks values path leaf range place

abbrev pub WritesStatics : Program → Layouts → Blocks → List ℕ → LeafContent → Range → Range → Type 0
WritesStatics program layouts blocks path leaf old new = (values : Trees) → StaticsStandBeside program layouts blocks old values → IsStaticWrittenInPlace program layouts blocks values path leaf old new

abbrev pub LeavesStatics : Program → Layouts → Blocks → List ℕ → LeafContent → Range → Type 0
LeavesStatics program layouts blocks path leaf range = (values : Trees) → StaticsStandBeside program layouts blocks range values
    → IsLeft program (structures_in_statics program path) (StaticPartLies program layouts.structures layouts.statics.fields values path) (Rec values) path leaf

abbrev pub MisfitsStatics : Program → Layouts → Blocks → List ℕ → LeafContent → Range → Type 0
MisfitsStatics program layouts blocks path leaf range = (values : Trees) → StaticsStandBeside program layouts blocks range values
    → LeadsToLeaf (Rec values) path × ((tree : Tree) (new : Trees) → IsContentOf leaf tree → ¬ AssignsStatics program blocks values path tree new)
