-- The leaves of the parts of a value, where something holds of each leaf of the value.
use Rattle.std.proofs.Common.{◌≡◌, ℕ, ◌+◌, ◌*◌, List, [], ◌∷◌, ◌++◌, subst, Option, Some, None}
use Rattle.std.specs.Prelude.{All, ℤ, slice_get}
use Rattle.std.specs.List.{filter}
use Rattle.std.proofs.lemmas.List.Elements.{All-nil, All-cons, All-head, All-tail}
use Rattle.gt_types.specs.declared.expressions.Expr.{Expr}
use Rattle.gt_types.specs.declared.types.TypeId.{TypeId}
use Rattle.gt_types.specs.declared.types.Scalar.{Scalar}
use Rattle.gt_types.specs.declared.types.Ty.{Ty, out-Ty}
use Rattle.gt_types.specs.declared.types.Ty.TheOpen as part
use Rattle.gt_types.specs.declared.types.Ty.TheVariants as ty
use Rattle.gt_types.specs.declared.program.Field.{Field}
use Rattle.gt_types.specs.declared.program.Structure.{Structure}
use Rattle.gt_types.specs.declared.program.Program.{Program}
use Rattle.gt_types.specs.Contains.{HasStructure}
use Rattle.gt_types.specs.Unions.{IsCommon}
use Rattle.gt_types.specs.Settled.{Settled}
use Rattle.gt_layout.specs.declared.planes.Plane.{Plane}
use Rattle.gt_layout.specs.declared.planes.FieldSpot.{FieldSpot}
use Rattle.gt_layout.specs.Storages.{bytes_of, extent_of}
use Rattle.gt_layout.specs.Places.{begin_at}
use Rattle.gt_tree.specs.Trees.{Tree, Num, Null, To, Raw, Rec, Alt, Row, Trees, And}
use Rattle.gt_tree.specs.Fits.{types_of}
use Rattle.gt_tree.specs.Leaves.{Leaf, leaf, Number, Pointer, byte_leaves, is_number, HasLeaves, FieldsHaveLeaves, EachHasLeaves}
use Rattle.gt_tree.proofs.Commons.{one-common}

-- a value has leaves of which each is so
abbrev pub IsRead : Program → List Plane → (Leaf → Type 0) → ℕ → Ty → Tree → Type 0
IsRead program planes held at type tree = (leaves : List Leaf) × HasLeaves program planes at type tree leaves × All held leaves

abbrev pub FieldsRead : Program → List Plane → (Leaf → Type 0) → ℕ → List Ty → List FieldSpot → Trees → Type 0
FieldsRead program planes held at types spots trees = (leaves : List Leaf) × FieldsHaveLeaves program planes at types spots trees leaves × All held leaves

abbrev pub EachRead : Program → List Plane → (Leaf → Type 0) → ℕ → ℕ → Ty → Trees → Type 0
EachRead program planes held stride at type trees = (leaves : List Leaf) × EachHasLeaves program planes stride at type trees leaves × All held leaves

All-left : {X : Type 0} (P : X → Type 0) (xs ys : List X) → All P (xs ++ ys) → All P xs
All-left P [] ys h = All-nil P
All-left P (x ∷ xs) ys h = All-cons P x xs (All-head P x (xs ++ ys) h) (All-left P xs ys (All-tail P x (xs ++ ys) h))

All-right : {X : Type 0} (P : X → Type 0) (xs ys : List X) → All P (xs ++ ys) → All P ys
All-right P [] ys h = h
All-right P (x ∷ xs) ys h = All-right P xs ys (All-tail P x (xs ++ ys) h)

module _ {program : Program} {planes : List Plane} (held : Leaf → Type 0) {at : ℕ} where
  pub read-number : (scalar : Scalar) (n : ℤ) (ls : List Leaf) → HasLeaves program planes at (ty.Num scalar) (Num n) ls → All held ls → held (leaf at (8 * bytes_of scalar) (Number n))
  read-number scalar n ls HasLeaves.number all = All-head held _ [] all

  pub read-bits : (unit : Scalar) (width : ℕ) (n : ℤ) (ls : List Leaf) → HasLeaves program planes at (ty.Bits unit width) (Num n) ls → All held ls → held (leaf at width (Number n))
  read-bits unit width n ls HasLeaves.bits all = All-head held _ [] all

  pub read-opaque : (size align : ℕ) (bytes : List ℕ) (ls : List Leaf) → HasLeaves program planes at (ty.Opaque size align) (Raw bytes) ls → All held ls → All held (byte_leaves at bytes)
  read-opaque size align bytes ls HasLeaves.opaque all = all

  pub read-null : (type : Ty) (ls : List Leaf) → HasLeaves program planes at type Null ls → All held ls → held (leaf at 64 (Pointer None))
  read-null type ls (HasLeaves.null p) all = All-head held _ [] all

  pub read-to : (type : Ty) (id : ℕ) (ls : List Leaf) → HasLeaves program planes at type (To id) ls → All held ls → held (leaf at 64 (Pointer (Some id)))
  read-to type id ls (HasLeaves.to p) all = All-head held _ [] all

  pub read-plane : (node : TypeId) (desc : Option Expr) (trees : Trees) (ls : List Leaf) → HasLeaves program planes at (ty.Node node desc) (Rec trees) ls → (plane : Plane) × (slice_get planes node.0 ≡ Some plane)
  read-plane node desc trees ls (HasLeaves.struct {plane} h u g fields) = (plane, g)

  pub read-struct : (node : TypeId) (desc : Option Expr) (s : Structure) (plane : Plane) (trees : Trees) → HasStructure program node s → slice_get planes node.0 ≡ Some plane → (ls : List Leaf)
      → HasLeaves program planes at (ty.Node node desc) (Rec trees) ls → All held ls → FieldsRead program planes held at (types_of s.fields) plane.fields trees
  read-struct node desc s plane trees has got ls (HasLeaves.struct {s = t} {plane = flat} h u g fields) all =
      let same : t ≡ s = cc in
      let even : flat ≡ plane = cc in (
        ls,
        subst (λ p. FieldsHaveLeaves program planes at (types_of s.fields) p.fields trees ls) even
            (subst (λ x. FieldsHaveLeaves program planes at (types_of x.fields) flat.fields trees ls) same fields),
        all,
      )

  pub read-member : (node : TypeId) (desc : Option Expr) (s : Structure) (place : ℕ) (f : Field) (tree : Tree) → HasStructure program node s → slice_get s.fields place ≡ Some f → (ls : List Leaf)
      → HasLeaves program planes at (ty.Node node desc) (Alt (Some place) tree) ls → All held ls → IsRead program planes held at f.ty tree
  read-member node desc s place f tree has get ls (HasLeaves.member {s = t} {f = g} h u got part) all =
      let same : t ≡ s = cc in
      let there : slice_get s.fields place ≡ Some g = subst (λ x. slice_get x.fields place ≡ Some g) same got in
      let equal : g ≡ f = cc in
      (ls, subst (λ x. HasLeaves program planes at x.ty tree ls) equal part, all)

  pub read-common : (node common : TypeId) (desc : Option Expr) (s : Structure) (tree : Tree) → Settled program → HasStructure program node s → IsCommon program s common → (ls : List Leaf)
      → HasLeaves program planes at (ty.Node node desc) (Alt None tree) ls → All held ls
      → (inner : List Leaf) × HasLeaves program planes at (ty.Node common None) tree inner × All held (filter is_number inner)
  read-common node common desc s tree settled has c ls (HasLeaves.common {common = other} {s = t} {leaves = inner} h u o part) all =
      let same : t ≡ s = cc in
      let there : IsCommon program s other = subst (λ x. IsCommon program x other) same o in
      (inner, subst (λ n. HasLeaves program planes at (ty.Node n None) tree inner) (one-common program node s other common settled has there c) part, all)
  read-common node common desc s tree settled has c ls (HasLeaves.nothing {s = t} h u none) all =
      let same : s ≡ t = cc in
      absurd (none common (subst (λ x. IsCommon program x common) same c))

  pub read-array : (type elem : Ty) (n : ℕ) (trees : Trees) → out-Ty type ≡ part.Arr n elem → (ls : List Leaf) → HasLeaves program planes at type (Row trees) ls → All held ls
      → EachRead program planes held (8 * (extent_of planes elem).size) at elem trees
  read-array type elem n trees e ls (HasLeaves.array {elem = other} o each) all =
      let same : other ≡ elem = cc in
      (ls, subst (λ t. EachHasLeaves program planes (8 * (extent_of planes t).size) at t trees ls) same each, all)
  read-array type elem n trees e ls (HasLeaves.tail o each) all = absurd (cc)

  pub read-tail : (type elem : Ty) (long : Expr) (trees : Trees) → out-Ty type ≡ part.Tail long elem → (ls : List Leaf) → HasLeaves program planes at type (Row trees) ls → All held ls
      → EachRead program planes held (8 * (extent_of planes elem).size) at elem trees
  read-tail type elem long trees e ls (HasLeaves.array o each) all = absurd (cc)
  read-tail type elem long trees e ls (HasLeaves.tail {elem = other} o each) all =
      let same : other ≡ elem = cc in
      (ls, subst (λ t. EachHasLeaves program planes (8 * (extent_of planes t).size) at t trees ls) same each, all)

  pub read-more : (type : Ty) (types : List Ty) (s : FieldSpot) (spots : List FieldSpot) (tree : Tree) (trees : Trees) (ls : List Leaf) → FieldsHaveLeaves program planes at (type ∷ types) (s ∷ spots) (And tree trees) ls
      → All held ls → IsRead program planes held (at + begin_at s) type tree × FieldsRead program planes held at types spots trees
  read-more type types s spots tree trees ls (FieldsHaveLeaves.more {first} {rest} part parts) all = ((first, part, All-left held first rest all), (rest, parts, All-right held first rest all))

  pub read-one : (stride : ℕ) (type : Ty) (tree : Tree) (trees : Trees) (ls : List Leaf) → EachHasLeaves program planes stride at type (And tree trees) ls → All held ls
      → IsRead program planes held at type tree × EachRead program planes held stride (at + stride) type trees
  read-one stride type tree trees ls (EachHasLeaves.one_more {first} {rest} part parts) all = ((first, part, All-left held first rest all), (rest, parts, All-right held first rest all))

pub read-no_spots : {program : Program} {planes : List Plane} {at : ℕ} (type : Ty) (types : List Ty) (trees : Trees) (ls : List Leaf) → ¬ FieldsHaveLeaves program planes at (type ∷ types) [] trees ls
read-no_spots type types trees ls h = elim h [ ]
