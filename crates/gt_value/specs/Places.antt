-- Where the parts of a value lie, and in what; and which of them are leaves that hold one content.
use Rattle.std.specs.Prelude.{◌≡◌, ◌≤◌, ℕ, ◌+◌, ◌-◌, ◌*◌, ◌/◌, ◌%◌, ◌<◌, ℤ, Bool, true, false, ◌==◌, cond, IsTrue, List, [], ◌∷◌, Option, Some, None, length, slice_get}
use Rattle.gt_types.specs.declared.expressions.Expr.{Expr}
use Rattle.gt_types.specs.declared.types.TypeId.{TypeId}
use Rattle.gt_types.specs.declared.types.Ty.{Ty, out-Ty}
use Rattle.gt_types.specs.declared.types.Ty.TheOpen as part
use Rattle.gt_types.specs.declared.types.Ty.TheVariants as ty
use Rattle.gt_types.specs.declared.program.Field.{Field}
use Rattle.gt_types.specs.declared.program.Structure.{Structure}
use Rattle.gt_types.specs.declared.program.Root.{Root as RootOf}
use Rattle.gt_types.specs.declared.program.Program.{Program}
use Rattle.gt_types.specs.Shapes.{count_of}
use Rattle.gt_types.specs.Contains.{HasStructure}
use Rattle.gt_types.specs.Unions.{IsCommon}
use Rattle.gt_layout.specs.declared.planes.Layouts.{Layouts}
use Rattle.gt_layout.specs.declared.planes.Plane.{Plane}
use Rattle.gt_layout.specs.declared.planes.FieldSpot.{FieldSpot}
use Rattle.gt_layout.specs.Storages.{extent_of}
use Rattle.gt_layout.specs.Places.{begin_at}
use Rattle.gt_space.specs.Range.{Range}
use Rattle.gt_tree.specs.Trees.{Tree, Num, Null, To, Raw, Rec, Alt, Row, Trees, tree_at, part_at}
use Rattle.gt_tree.specs.Scopes.{Scope, outside, inside, eval_in, ◌then◌}
use Rattle.gt_tree.specs.Numbers.{has_room, two's_complement}
use Rattle.gt_tree.specs.Leaves.{bit_of}
use Rattle.gt_tree.specs.FixedLaws.{bit_in}
use Rattle.gt_value.specs.declared.places.Holder.{Holder}
use Rattle.gt_value.specs.declared.places.Holder.TheVariants as lies_in
use Rattle.gt_value.specs.declared.places.LeafContent.{LeafContent}
use Rattle.gt_value.specs.declared.places.LeafContent.TheVariants as content
use Rattle.gt_value.specs.declared.places.LeafKind.{LeafKind}
use Rattle.gt_value.specs.declared.places.LeafKind.TheVariants.{Number, Pointer}
use Rattle.gt_value.specs.declared.places.Place.{Place}
use Rattle.gt_value.specs.declared.sources.Shape.{Shape}
use Rattle.gt_value.specs.Reading.{shape_of, bits_from, end_from, bits_number, number_from}

-- A part of a value: its first bit, its type, what it lies in, the scope in which its expressions stand, whether the unions
-- around it have active members, and the part itself.
pub record Part : Type 0 where
  pub bit : ℕ
  pub type : Ty
  pub holder : Holder
  pub scope : Scope
  pub active : Bool
  pub tree : Tree

-- Where the part of a value at a path lies, if the value is of this type, begins at a bit, and stands in this scope. Where no member
-- of a union is active, each place leads to its common structure.
pub data PartLies (program : Program) (planes : List Plane) : Scope → Holder → Bool → ℕ → Ty → Tree → List ℕ → Part → Type 0 where
  whole : {scope : Scope} {holder : Holder} {active : Bool} {at : ℕ} {type : Ty} {tree : Tree}
      → PartLies program planes scope holder active at type tree [] (record { bit = at; type = type; holder = holder; scope = scope; active = active; tree = tree })
  field : {scope : Scope} {holder : Holder} {active : Bool} {at i : ℕ} {node : TypeId} {desc : Option Expr} {s : Structure} {plane : Plane} {f : Field} {spot : FieldSpot} {trees : Trees} {tree : Tree} {path : List ℕ} {p : Part}
      → HasStructure program node s → s.is_union ≡ false → slice_get planes node.0 ≡ Some plane → slice_get s.fields i ≡ Some f → slice_get plane.fields i ≡ Some spot → tree_at trees i ≡ Some tree
      → PartLies program planes (inside scope node (Rec trees)) (lies_in.Field node i) active (at + begin_at spot) f.ty tree path p → PartLies program planes scope holder active at (ty.Node node desc) (Rec trees) (i ∷ path) p
  member : {scope : Scope} {holder : Holder} {active : Bool} {at i : ℕ} {node : TypeId} {desc : Option Expr} {s : Structure} {f : Field} {tree : Tree} {path : List ℕ} {p : Part}
      → HasStructure program node s → s.is_union ≡ true → slice_get s.fields i ≡ Some f
      → PartLies program planes (inside scope node (Alt (Some i) tree)) (lies_in.Field node i) active at f.ty tree path p → PartLies program planes scope holder active at (ty.Node node desc) (Alt (Some i) tree) (i ∷ path) p
  common : {scope : Scope} {holder : Holder} {active : Bool} {at i : ℕ} {node common : TypeId} {desc : Option Expr} {s : Structure} {tree : Tree} {path : List ℕ} {p : Part}
      → HasStructure program node s → IsCommon program s common
      → PartLies program planes (inside scope node (Alt None tree)) holder false at (ty.Node common None) tree path p → PartLies program planes scope holder active at (ty.Node node desc) (Alt None tree) (i ∷ path) p
  array : {scope : Scope} {holder : Holder} {active : Bool} {at i n : ℕ} {type elem : Ty} {trees : Trees} {tree : Tree} {path : List ℕ} {p : Part}
      → out-Ty type ≡ part.Arr n elem → tree_at trees i ≡ Some tree
      → PartLies program planes scope holder active (at + i * (8 * (extent_of planes elem).size)) elem tree path p → PartLies program planes scope holder active at type (Row trees) (i ∷ path) p
  tail : {scope : Scope} {holder : Holder} {active : Bool} {at i : ℕ} {length : Expr} {type elem : Ty} {trees : Trees} {tree : Tree} {path : List ℕ} {p : Part}
      → out-Ty type ≡ part.Tail length elem → tree_at trees i ≡ Some tree
      → PartLies program planes scope holder active (at + i * (8 * (extent_of planes elem).size)) elem tree path p → PartLies program planes scope holder active at type (Row trees) (i ∷ path) p

-- Where the part of the static record at a path lies, of which the first place is that of a root.
pub record StaticPartLies (program : Program) (planes : List Plane) (spots : List FieldSpot) (statics : Trees) (path : List ℕ) (p : Part) : Type 0 where
  pub i : ℕ
  pub rest : List ℕ
  pub r : RootOf
  pub spot : FieldSpot
  pub tree : Tree
  pub path_is : path ≡ i ∷ rest
  pub root : slice_get program.roots i ≡ Some r
  pub spot_is : slice_get spots i ≡ Some spot
  pub there : tree_at statics i ≡ Some tree
  pub lies : PartLies program planes (outside statics) (lies_in.Root i) true (begin_at spot) r.ty tree rest p

abbrev pub kind_of_shape : Option Shape → Option LeafKind
kind_of_shape (Some s) = Some (Number s.signed s.width)
kind_of_shape None = None

-- what a leaf of a type holds: a number or a pointer; eight bytes that are never scanned are a number with a sign
abbrev pub leaf_kind : Ty → Option LeafKind
leaf_kind (ty.Opaque size align) = cond (size == 8) (Some (Number true 64)) None
leaf_kind (ty.Str count) = Some Pointer
leaf_kind (ty.Ptr target kind reorder) = Some Pointer
leaf_kind type = kind_of_shape (shape_of type)

-- ---- what a leaf holds

-- a pointer by its address
abbrev pub pointer_of : ℕ → LeafContent
pointer_of n = cond (n == 0) content.Null (content.To n)

-- what a leaf at a bit holds, of which pointers are read where it is active
abbrev pub content_of : (ℕ → Bool) → ℕ → LeafKind → Bool → LeafContent
content_of bits at (Number signed width) active = content.Num (number_from signed width (bits_number bits at width))
content_of bits at Pointer true = pointer_of (bits_number bits at 64)
content_of bits at Pointer false = content.Null

-- what the leaf at a place of a space holds
abbrev pub content_at : Range → Place → LeafContent
content_at range place = content_of (bits_from range (place.addr - range.start)) place.bit place.kind place.active

-- how many bits a leaf has, which are from 1 to 64 for a number
abbrev pub IsKind : LeafKind → ℕ → Type 0
IsKind (Number signed n) width = (width ≡ n) × (1 ≤ n) × (n ≤ 64)
IsKind Pointer width = width ≡ 64

-- the bits of a leaf lie in the space
abbrev pub HasBits : Range → ℕ → ℕ → LeafKind → Type 0
HasBits range from at kind = (width : ℕ) × IsKind kind width × (at + width ≤ end_from range from)

-- this is what a leaf is: a number, of eight unscanned bytes that of 64 bits with their bits; null; or a pointer to the block at an address
abbrev pub IsContentOf : LeafContent → Tree → Type 0
IsContentOf (content.Num n) (Num m) = n ≡ m
IsContentOf (content.Num n) (Raw bytes) = (length bytes ≡ 8) × IsTrue (has_room true 64 n) × ((i : ℕ) → i < 64 → bit_of (two's_complement 64 n) i ≡ bit_in bytes i)
IsContentOf content.Null Null = Unit {0}
IsContentOf (content.To address) (To id) = address ≡ id
IsContentOf _ _ = ⊥

-- ---- places

-- the value of the length in a type, where it has one
abbrev pub length_there : Program → Scope → Ty → Option ℤ
length_there program scope type = count_of type then eval_in program scope

-- a place is where this part of a space lies, and the leaf there is what it holds
pub record IsPlaceOfPart (program : Program) (range : Range) (address : ℕ) (p : Part) (place : Place) : Type 0 where
  pub address_is : place.addr ≡ address + p.bit / 8
  pub bit_is : place.bit ≡ p.bit % 8
  pub kind_is : leaf_kind p.type ≡ Some place.kind
  pub active_is : place.active ≡ p.active
  pub holder_is : place.holder ≡ p.holder
  pub length_is : place.length ≡ length_there program p.scope p.type
  pub from_start : range.start ≤ place.addr
  pub bits : HasBits range (place.addr - range.start) place.bit place.kind
  pub holds : IsContentOf (content_at range place) p.tree

-- the place of the leaf at a path, of a value of this type at an address
pub record IsPlaceOf (program : Program) (planes : List Plane) (scope : Scope) (holder : Holder) (type : Ty) (range : Range) (address : ℕ) (value : Tree) (path : List ℕ) (place : Place) : Type 0 where
  pub p : Part
  pub lies : PartLies program planes scope holder true 0 type value path p
  pub there : part_at value path ≡ Some p.tree
  pub is : IsPlaceOfPart program range address p place

-- so in the static record, from the lowest address of the space on
pub record IsStaticPlaceOf (program : Program) (layouts : Layouts) (range : Range) (values : Trees) (path : List ℕ) (place : Place) : Type 0 where
  pub p : Part
  pub lies : StaticPartLies program layouts.structures layouts.statics.fields values path p
  pub there : part_at (Rec values) path ≡ Some p.tree
  pub is : IsPlaceOfPart program range range.start p place
