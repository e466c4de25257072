-- One leaf written in the bytes of a space.
use Rattle.std.specs.Prelude.{◌≡◌, ◌≢◌, ◌⊎◌, ℕ, ◌+◌, ◌-◌, ◌*◌, true, IsTrue, List}
use Rattle.gt_types.specs.declared.program.Program.{Program}
use Rattle.gt_layout.specs.declared.planes.Layouts.{Layouts}
use Rattle.gt_space.specs.Range.{Range, IsInside, bytes_at, with_bytes}
use Rattle.gt_tree.specs.Numbers.{has_room, two's_complement}
use Rattle.gt_tree.specs.Trees.{Tree, Rec, Trees, with_part, without_pointers}
use Rattle.gt_tree.specs.Blocks.{Kind, Blocks, element_type}
use Rattle.gt_tree.specs.Scopes.{outside}
use Rattle.gt_tree.specs.Fits.{Fits, StaticsFit}
use Rattle.gt_tree.specs.FixedLaws.{MayHold, IsValueOf, AreStaticsOf}
use Rattle.gt_value.specs.declared.places.LeafContent.{LeafContent}
use Rattle.gt_value.specs.declared.places.LeafContent.TheVariants as content
use Rattle.gt_value.specs.declared.places.LeafKind.{LeafKind}
use Rattle.gt_value.specs.declared.places.LeafKind.TheVariants.{Number, Pointer}
use Rattle.gt_value.specs.declared.places.Place.{Place}
use Rattle.gt_value.specs.Bytes.{itself, Takes}
use Rattle.gt_value.specs.declared.places.Holder.TheVariants as lies_in
use Rattle.gt_value.specs.Places.{Part, PartLies, StaticPartLies, IsContentOf, IsPlaceOfPart}
use Rattle.gt_store.specs.Writing.{Writes}

-- a leaf may be this: a number that has room in its bits, null, or a pointer to the block at an address
abbrev pub MayBe : LeafKind → LeafContent → Type 0
MayBe (Number signed width) (content.Num n) = IsTrue (has_room signed width n)
MayBe Pointer content.Null = Unit {0}
MayBe Pointer (content.To address) = address ≢ 0
MayBe _ _ = ⊥

-- how many bits a leaf has
abbrev pub width_of : LeafKind → ℕ
width_of (Number signed width) = width
width_of Pointer = 64

-- the bits of what a leaf is
abbrev pub bits_of : LeafKind → LeafContent → ℕ
bits_of kind (content.Num n) = two's_complement (width_of kind) n
bits_of kind content.Null = 0
bits_of kind (content.To address) = address

-- the first bit of a leaf, counted from the lowest address of a space
abbrev pub first_bit : Range → Place → ℕ
first_bit range place = 8 * (place.addr - range.start) + place.bit

-- the leaf at a place is this now, and every other bit is as before
abbrev pub IsLeafWritten : Place → LeafContent → Range → Range → Type 0
IsLeafWritten place leaf old new = Writes (first_bit old place) (width_of place.kind) (bits_of place.kind leaf) old new

-- What is written at a place is this leaf, which the part there may be: where a union around it has no active member, no pointer but null.
pub record IsNewLeaf (p : Part) (place : Place) (is : LeafContent) (leaf : Tree) : Type 0 where
  pub may : MayBe place.kind is
  pub means : IsContentOf is leaf
  pub active : (p.active ≡ true) ⊎ (without_pointers leaf ≡ leaf)

-- no byte has changed but so many at an address
abbrev pub IsSameBut : Range → ℕ → ℕ → Range → Type 0
IsSameBut old address size new = new ≡ with_bytes old address (bytes_at new address size)

-- Where bytes stand for a value of an element of a block, and one of its leaves is written at its place, they stand for the value with
-- this leaf, if it fits; and no other byte has changed.
abbrev pub LeafIsStored : Program → Layouts → Type 0
LeafIsStored program layouts = (blocks : Blocks) (statics : Trees) (kind : Kind) (capacity size address : ℕ) (old new : Range) (value leaf : Tree) (path : List ℕ) (p : Part) (place : Place) (is : LeafContent)
    → MayHold program kind → Takes program layouts capacity (element_type program kind) size → IsInside old address size
    → IsValueOf program layouts blocks statics kind capacity itself 0 (bytes_at old address size) value
    → PartLies program layouts.structures (outside statics) lies_in.Element true 0 (element_type program kind) value path p → IsPlaceOfPart program old address p place → IsNewLeaf p place is leaf
    → Fits program blocks capacity (outside statics) (element_type program kind) (with_part value path leaf)
    → IsLeafWritten place is old new
    → IsValueOf program layouts blocks statics kind capacity itself 0 (bytes_at new address size) (with_part value path leaf) × IsSameBut old address size new

-- so it is for the static record, which begins at the lowest address
abbrev pub StaticLeafIsStored : Program → Layouts → Type 0
StaticLeafIsStored program layouts = (blocks : Blocks) (old new : Range) (values others : Trees) (leaf : Tree) (path : List ℕ) (p : Part) (place : Place) (is : LeafContent)
    → IsInside old old.start layouts.statics.size → AreStaticsOf program layouts blocks itself (bytes_at old old.start layouts.statics.size) values
    → StaticPartLies program layouts.structures layouts.statics.fields values path p → IsPlaceOfPart program old old.start p place → IsNewLeaf p place is leaf
    → with_part (Rec values) path leaf ≡ Rec others → StaticsFit program blocks others
    → IsLeafWritten place is old new
    → AreStaticsOf program layouts blocks itself (bytes_at new old.start layouts.statics.size) others × IsSameBut old old.start layouts.statics.size new
