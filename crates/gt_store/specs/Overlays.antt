-- No promise: what becomes of the bits of a space where leaves are written. Places are counted in bits from its lowest address.
use Rattle.std.specs.Prelude.{◌≡◌, ◌≤◌, ◌⊎◌, ℕ, ◌+◌, ◌*◌, ◌%◌, Bool, true, false, ◌&&◌, nat_le, nat_lt, is_some, List, [], ◌∷◌, length}
use Rattle.std.specs.List.{filter, list_any}
use Rattle.gt_types.specs.declared.types.Width.{Width}
use Rattle.gt_types.specs.declared.types.Width.TheVariants.{W1, W2, W4, W8}
use Rattle.gt_types.specs.declared.types.Ty.{Ty}
use Rattle.gt_types.specs.declared.types.Ty.TheVariants as ty
use Rattle.gt_types.specs.declared.program.Program.{Program}
use Rattle.gt_types.specs.Shapes.{is_structure}
use Rattle.gt_layout.specs.declared.planes.Plane.{Plane}
use Rattle.gt_layout.specs.declared.planes.TheConstants.{MAX_SIZE}
use Rattle.gt_layout.specs.declared.planes.FieldSpot.{FieldSpot}
use Rattle.gt_layout.specs.Places.{begin_at}
use Rattle.gt_space.specs.Range.{Range, KeepsAddresses}
use Rattle.gt_tree.specs.Trees.{Tree, Trees}
use Rattle.gt_tree.specs.Blocks.{Blocks}
use Rattle.gt_tree.specs.Scopes.{Scope}
use Rattle.gt_tree.specs.Fits.{Fits, EachFits}
use Rattle.gt_tree.specs.Leaves.{Leaf, Number, Pointer, is_set_in, HasLeaves, EachHasLeaves}
use Rattle.gt_tree.specs.LeafLaws.{IsTypeIn}
use Rattle.gt_tree.specs.FixedLaws.{bit_in}
use Rattle.gt_value.specs.Bytes.{itself}
use Rattle.gt_store.specs.declared.stores.TheConstants.{MAX_BITS}
use Rattle.gt_store.specs.Writing.{AreSmall}

-- how many bytes a number takes
abbrev pub bytes_in : Width → ℕ
bytes_in W1 = 1
bytes_in W2 = 2
bytes_in W4 = 4
bytes_in W8 = 8

-- whether a bit is one of a leaf
abbrev pub covers : ℕ → Leaf → Bool
covers i l = nat_le l.at i && nat_lt i (l.at + l.width)

-- the bits of these leaves are theirs, and all others are as before
pub record Overlays (leaves : List Leaf) (old new : Range) : Type 0 where
  pub addresses : KeepsAddresses old new
  pub small : AreSmall old → AreSmall new
  pub inside : (j : ℕ) → list_any (covers j) leaves ≡ true → bit_in new.bytes j ≡ list_any (is_set_in itself j) leaves
  pub outside : (j : ℕ) → list_any (covers j) leaves ≡ false → bit_in new.bytes j ≡ bit_in old.bytes j

-- a leaf with a bit that may be set: null has none
abbrev pub is_written : Leaf → Bool
is_written l = elim l.content as (λ _. Bool) [ Number n ↦ true | Pointer name ↦ is_some name ]

abbrev pub written : List Leaf → List Leaf
written leaves = filter is_written leaves

-- leaves lie one after another, between two bits
abbrev pub Rises : ℕ → List Leaf → ℕ → Type 0
Rises from [] end = from ≤ end
Rises from (l ∷ ls) end = (from ≤ l.at) × Rises (l.at + l.width) ls end

-- the leaves that are written lie in a space
abbrev pub LieIn : Range → List Leaf → Type 0
LieIn range leaves = Rises 0 (written leaves) (8 * length range.bytes)

-- only a bit-field may begin within a byte
abbrev pub StandsAt : Ty → ℕ → Type 0
StandsAt (ty.Bits unit count) at = Unit {0}
StandsAt type at = at % 8 ≡ 0

-- the space is not too long, and a place is not too far
pub record IsNear (range : Range) (at : ℕ) : Type 0 where
  pub short : 8 * length range.bytes ≤ MAX_BITS
  pub near : at ≤ MAX_BITS

-- a value of a type fits, and has its leaves in a space from a place on
pub record CanStore (program : Program) (planes : List Plane) (range : Range) (at : ℕ) (type : Ty) (tree : Tree) : Type 0 where
  pub blocks : Blocks
  pub capacity : ℕ
  pub scope : Scope
  pub fits : Fits program blocks capacity scope type tree
  pub leaves : List Leaf
  pub has : HasLeaves program planes at type tree leaves
  pub lie : LieIn range leaves
  pub typed : IsTypeIn program type ⊎ (is_structure type ≡ true)
  pub stands : StandsAt type at
  pub near : IsNear range at

-- so for a field at its place, which may be too far where it has no leaves
pub record CanStorePart (program : Program) (planes : List Plane) (range : Range) (at : ℕ) (type : Ty) (spot : FieldSpot) (tree : Tree) : Type 0 where
  pub blocks : Blocks
  pub capacity : ℕ
  pub scope : Scope
  pub fits : Fits program blocks capacity scope type tree
  pub leaves : List Leaf
  pub has : HasLeaves program planes (at + begin_at spot) type tree leaves
  pub lie : LieIn range leaves
  pub typed : IsTypeIn program type
  pub stands : StandsAt type (at + begin_at spot)
  pub near : IsNear range at

-- and for elements, one after another
pub record CanStoreEach (program : Program) (planes : List Plane) (range : Range) (stride at : ℕ) (type : Ty) (values : Trees) : Type 0 where
  pub blocks : Blocks
  pub capacity : ℕ
  pub scope : Scope
  pub fit : EachFits program blocks capacity scope type values
  pub leaves : List Leaf
  pub have : EachHasLeaves program planes stride at type values leaves
  pub lie : LieIn range leaves
  pub typed : IsTypeIn program type
  pub whole : at % 8 ≡ 0
  pub narrow : stride ≤ 8 * MAX_SIZE
  pub short : 8 * length range.bytes ≤ MAX_BITS

-- a value was stored, of which these are all leaves
abbrev pub IsWritten : Program → List Plane → ℕ → Ty → Tree → Range → Range → Type 0
IsWritten program planes at type tree old new = (leaves : List Leaf) → HasLeaves program planes at type tree leaves → LieIn old leaves → Overlays (written leaves) old new

abbrev pub EachIsWritten : Program → List Plane → ℕ → ℕ → Ty → Trees → Range → Range → Type 0
EachIsWritten program planes stride at type values old new = (leaves : List Leaf) → EachHasLeaves program planes stride at type values leaves → LieIn old leaves → Overlays (written leaves) old new
