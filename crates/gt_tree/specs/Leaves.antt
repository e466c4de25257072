-- The leaves of a value with their places, and the bytes that stand for it.
use Rattle.std.specs.Prelude.{◌≡◌, ◌≤◌, ◌<◌, ◌⊎◌, ℕ, ◌+◌, ◌-◌, ◌*◌, ◌/◌, ◌%◌, ◌^◌, Bool, true, false, ◌&&◌, ◌==◌, nat_le, nat_lt, ℤ, pos, List, [], ◌∷◌, ◌++◌, Option, Some, None, length, slice_get, slice_index, filter_map, IsTrue}
use Rattle.std.specs.List.{filter, list_any}
use Rattle.gt_types.specs.declared.expressions.Expr.{Expr}
use Rattle.gt_types.specs.declared.types.TypeId.{TypeId}
use Rattle.gt_types.specs.declared.types.Scalar.{Scalar}
use Rattle.gt_types.specs.declared.types.Ty.{Ty, out-Ty}
use Rattle.gt_types.specs.declared.types.Ty.TheOpen as part
use Rattle.gt_types.specs.declared.types.Ty.TheVariants as ty
use Rattle.gt_types.specs.declared.program.Field.{Field}
use Rattle.gt_types.specs.declared.program.Structure.{Structure}
use Rattle.gt_types.specs.declared.program.Program.{Program}
use Rattle.gt_types.specs.Shapes.{is_pointer}
use Rattle.gt_types.specs.Contains.{HasStructure}
use Rattle.gt_types.specs.Unions.{IsCommon}
use Rattle.gt_layout.specs.declared.planes.Plane.{Plane}
use Rattle.gt_layout.specs.declared.planes.FieldSpot.{FieldSpot}
use Rattle.gt_layout.specs.Storages.{bytes_of, extent_of}
use Rattle.gt_layout.specs.Places.{begin_at}
use Rattle.gt_tree.specs.Trees.{Tree, Num, Null, To, Raw, Rec, Alt, Row, Trees, End, And}
use Rattle.gt_tree.specs.Numbers.{two's_complement}
use Rattle.gt_tree.specs.Fits.{types_of}

-- what a leaf holds: a number, or a pointer that is null or names a block
pub data Content : Type 0 where
  Number : ℤ → Content
  Pointer : Option ℕ → Content

-- a leaf: the bit at which it begins, its bits, and what it holds
pub record Leaf : Type 0 where
  pub at : ℕ
  pub width : ℕ
  pub content : Content

abbrev pub leaf : ℕ → ℕ → Content → Leaf
leaf at width content = record { at = at; width = width; content = content }

-- bytes that are never scanned are a number each
abbrev pub byte_leaves : ℕ → List ℕ → List Leaf
byte_leaves at [] = []
byte_leaves at (byte ∷ bytes) = leaf at 8 (Number (pos byte)) ∷ byte_leaves (at + 8) bytes

abbrev pub is_number : Leaf → Bool
is_number l = elim l.content as (λ _. Bool) [ Number n ↦ true | Pointer name ↦ false ]

mutual
  -- The leaves of a value of a type that begins at a bit, in the order of their places. A field lies at its place in its
  -- structure, a member of a union at its begin, and elements one after another. Where no member of a union is active, the
  -- pointers of its common structure are no leaves.
  pub data HasLeaves (program : Program) (planes : List Plane) : ℕ → Ty → Tree → List Leaf → Type 0 where
    number : {at : ℕ} {scalar : Scalar} {n : ℤ} → HasLeaves program planes at (ty.Num scalar) (Num n) (leaf at (8 * bytes_of scalar) (Number n) ∷ [])
    bits : {at : ℕ} {unit : Scalar} {width : ℕ} {n : ℤ} → HasLeaves program planes at (ty.Bits unit width) (Num n) (leaf at width (Number n) ∷ [])
    opaque : {at size align : ℕ} {bytes : List ℕ} → HasLeaves program planes at (ty.Opaque size align) (Raw bytes) (byte_leaves at bytes)
    null : {at : ℕ} {type : Ty} → IsTrue (is_pointer type) → HasLeaves program planes at type Null (leaf at 64 (Pointer None) ∷ [])
    to : {at : ℕ} {type : Ty} {id : ℕ} → IsTrue (is_pointer type) → HasLeaves program planes at type (To id) (leaf at 64 (Pointer (Some id)) ∷ [])
    struct : {at : ℕ} {node : TypeId} {desc : Option Expr} {s : Structure} {plane : Plane} {trees : Trees} {leaves : List Leaf} → HasStructure program node s
        → s.is_union ≡ false → slice_get planes node.0 ≡ Some plane → FieldsHaveLeaves program planes at (types_of s.fields) plane.fields trees leaves
        → HasLeaves program planes at (ty.Node node desc) (Rec trees) leaves
    member : {at : ℕ} {node : TypeId} {desc : Option Expr} {s : Structure} {place : ℕ} {f : Field} {tree : Tree} {leaves : List Leaf} → HasStructure program node s
        → s.is_union ≡ true → slice_get s.fields place ≡ Some f → HasLeaves program planes at f.ty tree leaves
        → HasLeaves program planes at (ty.Node node desc) (Alt (Some place) tree) leaves
    common : {at : ℕ} {node common : TypeId} {desc : Option Expr} {s : Structure} {tree : Tree} {leaves : List Leaf} → HasStructure program node s
        → s.is_union ≡ true → IsCommon program s common → HasLeaves program planes at (ty.Node common None) tree leaves
        → HasLeaves program planes at (ty.Node node desc) (Alt None tree) (filter is_number leaves)
    nothing : {at : ℕ} {node : TypeId} {desc : Option Expr} {s : Structure} → HasStructure program node s → s.is_union ≡ true
        → ((common : TypeId) → ¬ IsCommon program s common) → HasLeaves program planes at (ty.Node node desc) (Alt None (Rec End)) []
    array : {at : ℕ} {type elem : Ty} {n : ℕ} {trees : Trees} {leaves : List Leaf} → out-Ty type ≡ part.Arr n elem
        → EachHasLeaves program planes (8 * (extent_of planes elem).size) at elem trees leaves → HasLeaves program planes at type (Row trees) leaves
    tail : {at : ℕ} {type elem : Ty} {length : Expr} {trees : Trees} {leaves : List Leaf} → out-Ty type ≡ part.Tail length elem
        → EachHasLeaves program planes (8 * (extent_of planes elem).size) at elem trees leaves → HasLeaves program planes at type (Row trees) leaves

  -- the leaves of fields at their places in a structure that begins at a bit
  pub data FieldsHaveLeaves (program : Program) (planes : List Plane) : ℕ → List Ty → List FieldSpot → Trees → List Leaf → Type 0 where
    none : {at : ℕ} → FieldsHaveLeaves program planes at [] [] End []
    more : {at : ℕ} {type : Ty} {types : List Ty} {s : FieldSpot} {spots : List FieldSpot} {tree : Tree} {trees : Trees} {first rest : List Leaf}
        → HasLeaves program planes (at + begin_at s) type tree first → FieldsHaveLeaves program planes at types spots trees rest
        → FieldsHaveLeaves program planes at (type ∷ types) (s ∷ spots) (And tree trees) (first ++ rest)

  -- the leaves of elements, each so many bits after the one before it
  pub data EachHasLeaves (program : Program) (planes : List Plane) : ℕ → ℕ → Ty → Trees → List Leaf → Type 0 where
    no_more : {stride at : ℕ} {type : Ty} → EachHasLeaves program planes stride at type End []
    one_more : {stride at : ℕ} {type : Ty} {tree : Tree} {trees : Trees} {first rest : List Leaf} → HasLeaves program planes at type tree first
        → EachHasLeaves program planes stride (at + stride) type trees rest → EachHasLeaves program planes stride at type (And tree trees) (first ++ rest)

-- the name in a pointer that is not null
abbrev pub target_of : Leaf → Option ℕ
target_of l = elim l.content as (λ _. Option ℕ) [ Number n ↦ None | Pointer name ↦ name ]

-- the names in the pointers among leaves, in order
abbrev pub targets : List Leaf → List ℕ
targets leaves = filter_map target_of leaves

-- ---- bytes

-- two leaves have no bit in common
abbrev pub AreApart : Leaf → Leaf → Type 0
AreApart a b = (a.at + a.width ≤ b.at) ⊎ (b.at + b.width ≤ a.at)

-- a leaf lies between two bits
abbrev pub LiesBetween : ℕ → ℕ → Leaf → Type 0
LiesBetween from end l = (from ≤ l.at) × (l.at + l.width ≤ end)

-- the bits of a leaf as a number, where blocks lie at these addresses: null is 0
abbrev pub content_bits : (ℕ → ℕ) → ℕ → Content → ℕ
content_bits address width (Number n) = two's_complement width n
content_bits address width (Pointer None) = 0
content_bits address width (Pointer (Some id)) = address id

-- whether the bit of this place, counted from the lowest, is set in a number
abbrev pub bit_of : ℕ → ℕ → Bool
bit_of n i = (n / 2 ^ i) % 2 == 1

-- whether a bit is one of a leaf and is set there
abbrev pub is_set_in : (ℕ → ℕ) → ℕ → Leaf → Bool
is_set_in address i l = nat_le l.at i && nat_lt i (l.at + l.width) && bit_of (content_bits address l.width l.content) (i - l.at)

-- Bytes stand for leaves: each leaf's bits hold it, and every other bit is zero. Bits are counted from the lowest of each byte.
abbrev pub Stand : (ℕ → ℕ) → List Leaf → List ℕ → Type 0
Stand address leaves bytes = (i : ℕ) → i < 8 * length bytes → bit_of (slice_index bytes (i / 8)) (i % 8) ≡ list_any (is_set_in address i) leaves
