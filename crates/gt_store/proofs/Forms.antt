-- What a value with leaves says of its type, by its form.
use Rattle.std.proofs.Common.{◌≡◌, ◌⊎◌, ℕ, ◌+◌, ◌*◌, ◌%◌, ◌<◌, ◌≤◌, true, false, IsTrue, List, [], ◌∷◌, length, refl, ap, subst, arith, inl, inr, Option, Some}
use Rattle.std.specs.Prelude.{ℤ, pos, slice_get}
use Rattle.gt_types.specs.declared.expressions.Expr.{Expr}
use Rattle.gt_types.specs.declared.types.TypeId.{TypeId}
use Rattle.gt_types.specs.declared.types.Scalar.{Scalar}
use Rattle.gt_types.specs.declared.types.Ty.{Ty, out-Ty}
use Rattle.gt_types.specs.declared.types.Ty.TheOpen as part
use Rattle.gt_types.specs.declared.types.Ty.TheVariants as ty
use Rattle.gt_types.specs.declared.types.Ty.TheVariants.{outs-Node}
use Rattle.gt_types.specs.declared.program.Field.{Field}
use Rattle.gt_types.specs.declared.program.Structure.{Structure}
use Rattle.gt_types.specs.declared.program.Program.{Program}
use Rattle.gt_types.specs.Shapes.{bits_of, is_pointer}
use Rattle.gt_types.specs.Contains.{HasStructure}
use Rattle.gt_layout.specs.declared.planes.Plane.{Plane}
use Rattle.gt_layout.specs.Storages.{bytes_of, extent_of}
use Rattle.gt_tree.specs.Trees.{Tree, Num, Null, To, Raw, Rec, Alt, Row, Trees}
use Rattle.gt_tree.specs.Numbers.{is_signed, has_room}
use Rattle.gt_tree.specs.Blocks.{Blocks}
use Rattle.gt_tree.specs.Scopes.{Scope, inside}
use Rattle.gt_tree.specs.Fits.{Fits, AllFit, types_of}
use Rattle.gt_tree.specs.Leaves.{Leaf, leaf, Number, Pointer, byte_leaves, HasLeaves, FieldsHaveLeaves, EachHasLeaves}
use Rattle.gt_store.specs.Overlays.{written, Rises, StandsAt}

module _ {program : Program} {planes : List Plane} {at : ℕ} where
  -- ---- leaves of one form

  pub num-leaves : (scalar : Scalar) (n : ℤ) (leaves : List Leaf) → HasLeaves program planes at (ty.Num scalar) (Num n) leaves → leaves ≡ leaf at (8 * bytes_of scalar) (Number n) ∷ []
  num-leaves scalar n leaves HasLeaves.number = refl

  pub bits-leaves : (unit : Scalar) (width : ℕ) (n : ℤ) (leaves : List Leaf) → HasLeaves program planes at (ty.Bits unit width) (Num n) leaves → leaves ≡ leaf at width (Number n) ∷ []
  bits-leaves unit width n leaves HasLeaves.bits = refl

  pub number-typed : (type : Ty) (n : ℤ) (leaves : List Leaf) → HasLeaves program planes at type (Num n) leaves
      → ((scalar : Scalar) × (type ≡ ty.Num scalar)) ⊎ ((unit : Scalar) × (width : ℕ) × (type ≡ ty.Bits unit width))
  number-typed type n leaves (HasLeaves.number {scalar}) = inl (scalar, refl)
  number-typed type n leaves (HasLeaves.bits {unit} {width}) = inr (unit, width, refl)

  pub null-leaves : (type : Ty) (leaves : List Leaf) → HasLeaves program planes at type Null leaves → written leaves ≡ []
  null-leaves type leaves (HasLeaves.null p) = refl

  pub to-leaves : (type : Ty) (id : ℕ) (leaves : List Leaf) → HasLeaves program planes at type (To id) leaves → (leaves ≡ leaf at 64 (Pointer (Some id)) ∷ []) × IsTrue (is_pointer type)
  to-leaves type id leaves (HasLeaves.to p) = (refl, p)

  pub raw-leaves : (type : Ty) (bytes : List ℕ) (leaves : List Leaf) → HasLeaves program planes at type (Raw bytes) leaves → (leaves ≡ byte_leaves at bytes) × (size : ℕ) × (align : ℕ) × (type ≡ ty.Opaque size align)
  raw-leaves type bytes leaves (HasLeaves.opaque {size} {align}) = (refl, size, align, refl)

  pub rec-typed : (type : Ty) (trees : Trees) (leaves : List Leaf) → HasLeaves program planes at type (Rec trees) leaves → (node : TypeId) × (desc : Option Expr) × (type ≡ ty.Node node desc)
  rec-typed type trees leaves (HasLeaves.struct {node} {desc} h u g fields) = (node, desc, refl)

  pub alt-typed : (type : Ty) (member : Option ℕ) (tree : Tree) (leaves : List Leaf) → HasLeaves program planes at type (Alt member tree) leaves → (node : TypeId) × (desc : Option Expr) × (type ≡ ty.Node node desc)
  alt-typed type member tree leaves (HasLeaves.member {node} {desc} h u g p) = (node, desc, refl)
  alt-typed type member tree leaves (HasLeaves.common {node} {desc} h u c p) = (node, desc, refl)
  alt-typed type member tree leaves (HasLeaves.nothing {node} {desc} h u n) = (node, desc, refl)

  pub row-typed : (type : Ty) (trees : Trees) (leaves : List Leaf) → HasLeaves program planes at type (Row trees) leaves
      → ((n : ℕ) × (elem : Ty) × (out-Ty type ≡ part.Arr n elem)) ⊎ ((len : Expr) × (elem : Ty) × (out-Ty type ≡ part.Tail len elem))
  row-typed type trees leaves (HasLeaves.array {elem} {n} e each) = inl (n, elem, e)
  row-typed type trees leaves (HasLeaves.tail {elem} {length = len} e each) = inr (len, elem, e)

  pub array-leaves : (type elem : Ty) (n : ℕ) (trees : Trees) (leaves : List Leaf) → out-Ty type ≡ part.Arr n elem → HasLeaves program planes at type (Row trees) leaves
      → EachHasLeaves program planes (8 * (extent_of planes elem).size) at elem trees leaves
  array-leaves type elem n trees leaves is (HasLeaves.array {elem = other} e each) =
      let same : other ≡ elem = cc in
      subst (λ t. EachHasLeaves program planes (8 * (extent_of planes t).size) at t trees leaves) same each
  array-leaves type elem n trees leaves is (HasLeaves.tail e each) = absurd (cc)

  pub tail-leaves : (type elem : Ty) (len : Expr) (trees : Trees) (leaves : List Leaf) → out-Ty type ≡ part.Tail len elem → HasLeaves program planes at type (Row trees) leaves
      → EachHasLeaves program planes (8 * (extent_of planes elem).size) at elem trees leaves
  tail-leaves type elem len trees leaves is (HasLeaves.array e each) = absurd (cc)
  tail-leaves type elem len trees leaves is (HasLeaves.tail {elem = other} e each) =
      let same : other ≡ elem = cc in
      subst (λ t. EachHasLeaves program planes (8 * (extent_of planes t).size) at t trees leaves) same each

  pub struct-leaves : (node : TypeId) (desc : Option Expr) (s : Structure) (plane : Plane) (trees : Trees) (leaves : List Leaf) → HasStructure program node s → slice_get planes node.0 ≡ Some plane
      → HasLeaves program planes at (ty.Node node desc) (Rec trees) leaves → FieldsHaveLeaves program planes at (types_of s.fields) plane.fields trees leaves
  struct-leaves node desc s plane trees leaves has laid (HasLeaves.struct {s = other} {plane = flat} h u g fields) =
      let same : other ≡ s = cc in
      let even : flat ≡ plane = cc in
      subst (λ p. FieldsHaveLeaves program planes at (types_of s.fields) p.fields trees leaves) even
      (subst (λ x. FieldsHaveLeaves program planes at (types_of x.fields) flat.fields trees leaves) same fields)

  pub member-leaves : (node : TypeId) (desc : Option Expr) (s : Structure) (place : ℕ) (f : Field) (tree : Tree) (leaves : List Leaf) → HasStructure program node s → slice_get s.fields place ≡ Some f
      → HasLeaves program planes at (ty.Node node desc) (Alt (Some place) tree) leaves → HasLeaves program planes at f.ty tree leaves
  member-leaves node desc s place f tree leaves has get (HasLeaves.member {s = other} {f = g} h u got p) =
      let same : other ≡ s = cc in
      let there : slice_get s.fields place ≡ Some g = subst (λ x. slice_get x.fields place ≡ Some g) same got in
      let equal : g ≡ f = cc in
      subst (λ x. HasLeaves program planes at x.ty tree leaves) equal p

-- ---- values that fit

module _ {program : Program} {blocks : Blocks} {capacity : ℕ} {scope : Scope} where
  pub number-room : (scalar : Scalar) (n : ℤ) → Fits program blocks capacity scope (ty.Num scalar) (Num n) → IsTrue (has_room (is_signed scalar) (bits_of scalar) n)
  number-room scalar n (Fits.number h) = h

  pub bits-room : (unit : Scalar) (width : ℕ) (n : ℤ) → Fits program blocks capacity scope (ty.Bits unit width) (Num n) → IsTrue (has_room (is_signed unit) width n)
  bits-room unit width n (Fits.bits h) = h

  pub rec-struct : (node : TypeId) (desc : Option Expr) (trees : Trees) → Fits program blocks capacity scope (ty.Node node desc) (Rec trees)
      → (s : Structure) × HasStructure program node s × (s.is_union ≡ false) × AllFit program blocks capacity (inside scope node (Rec trees)) (types_of s.fields) trees
  rec-struct node desc trees (Fits.struct {s} h u all) = (s, h, u, all)

  pub alt-union : (node : TypeId) (desc : Option Expr) (member : Option ℕ) (tree : Tree) → Fits program blocks capacity scope (ty.Node node desc) (Alt member tree)
      → (s : Structure) × HasStructure program node s × (s.is_union ≡ true)
  alt-union node desc member tree (Fits.member {s} h u a g f) = (s, h, u)
  alt-union node desc member tree (Fits.common {s} h u a c w f) = (s, h, u)
  alt-union node desc member tree (Fits.nothing {s} h u a n) = (s, h, u)

  pub member-there : (node : TypeId) (desc : Option Expr) (s : Structure) (place : ℕ) (tree : Tree) → HasStructure program node s → Fits program blocks capacity scope (ty.Node node desc) (Alt (Some place) tree)
      → (f : Field) × (slice_get s.fields place ≡ Some f)
  member-there node desc s place tree has (Fits.member {s = other} {f} h u a g fits) =
      let same : other ≡ s = cc in
      (f, subst (λ x. slice_get x.fields place ≡ Some f) same g)

-- ---- where they stand

pub pointer-stands : (type : Ty) (at : ℕ) → IsTrue (is_pointer type) → StandsAt type at → at % 8 ≡ 0
pointer-stands (ty.Str count) at p s = s
pointer-stands (ty.Ptr target kind reorder) at p s = s
pointer-stands type at p s = absurd (cc)

pub written-bytes : (at : ℕ) (bytes : List ℕ) → written (byte_leaves at bytes) ≡ byte_leaves at bytes
written-bytes at [] = refl
written-bytes at (byte ∷ bytes) = ap (λ ls. leaf at 8 (Number (pos byte)) ∷ ls) (written-bytes (at + 8) bytes)

bytes-end : (from at : ℕ) (byte : ℕ) (bytes : List ℕ) (end : ℕ) → Rises from (byte_leaves at (byte ∷ bytes)) end → at + 8 * length (byte ∷ bytes) ≤ end
bytes-end from at byte [] end h = let last : at + 8 ≤ end = h.1 in omega (arith, last)
bytes-end from at byte (next ∷ bytes) end h =
    let rest = bytes-end (at + 8) (at + 8) next bytes end h.1 in
    omega (arith, rest)

pub bytes-inside : (from at : ℕ) (bytes : List ℕ) (end : ℕ) → 0 < length bytes → Rises from (byte_leaves at bytes) end → at + 8 * length bytes ≤ end
bytes-inside from at [] end lt h = absurd (omega (arith, lt))
bytes-inside from at (byte ∷ bytes) end lt h = bytes-end from at byte bytes end h
