-- A value has at most one list of leaves at each bit.
use Rattle.std.proofs.Common.{◌≡◌, ℕ, ◌+◌, ◌*◌, List, [], ◌∷◌, ◌++◌, refl, ap, subst, ◌∙◌, Option, Some, None}
use Rattle.std.specs.Prelude.{slice_get}
use Rattle.std.specs.List.{filter}
use Rattle.gt_types.specs.declared.expressions.Expr.{Expr}
use Rattle.gt_types.specs.declared.types.TypeId.{TypeId}
use Rattle.gt_types.specs.declared.types.Scalar.{Scalar}
use Rattle.gt_types.specs.declared.types.Ty.{Ty, out-Ty}
use Rattle.gt_types.specs.declared.types.Ty.TheOpen as part
use Rattle.gt_types.specs.declared.types.Ty.TheVariants as ty
use Rattle.gt_types.specs.declared.program.Field.{Field}
use Rattle.gt_types.specs.declared.program.Structure.{Structure}
use Rattle.gt_types.specs.declared.program.Program.{Program}
use Rattle.gt_types.specs.Contains.{HasStructure}
use Rattle.gt_types.specs.Unions.{IsCommon}
use Rattle.gt_types.specs.Settled.{Settled}
use Rattle.gt_layout.specs.declared.planes.Plane.{Plane}
use Rattle.gt_layout.specs.declared.planes.FieldSpot.{FieldSpot}
use Rattle.gt_layout.specs.Storages.{bytes_of, extent_of}
use Rattle.gt_layout.specs.Places.{begin_at}
use Rattle.gt_tree.specs.Trees.{Tree, Num, Null, To, Raw, Rec, Alt, Row, Trees, End, And}
use Rattle.gt_tree.specs.Fits.{types_of}
use Rattle.gt_tree.specs.Leaves.{Leaf, leaf, Number, Pointer, byte_leaves, is_number, HasLeaves, FieldsHaveLeaves, EachHasLeaves}
use Rattle.gt_tree.proofs.Commons.{one-common}

module _ {program : Program} {planes : List Plane} {at : ℕ} where
  inv-number : (scalar : Scalar) (n : _) (other : List Leaf) → HasLeaves program planes at (ty.Num scalar) (Num n) other → other ≡ leaf at (8 * bytes_of scalar) (Number n) ∷ []
  inv-number scalar n other HasLeaves.number = refl

  inv-bits : (unit : Scalar) (width : ℕ) (n : _) (other : List Leaf) → HasLeaves program planes at (ty.Bits unit width) (Num n) other → other ≡ leaf at width (Number n) ∷ []
  inv-bits unit width n other HasLeaves.bits = refl

  inv-opaque : (size align : ℕ) (bytes : List ℕ) (other : List Leaf) → HasLeaves program planes at (ty.Opaque size align) (Raw bytes) other → other ≡ byte_leaves at bytes
  inv-opaque size align bytes other HasLeaves.opaque = refl

  inv-null : (type : Ty) (other : List Leaf) → HasLeaves program planes at type Null other → other ≡ leaf at 64 (Pointer None) ∷ []
  inv-null type other (HasLeaves.null p) = refl

  inv-to : (type : Ty) (id : ℕ) (other : List Leaf) → HasLeaves program planes at type (To id) other → other ≡ leaf at 64 (Pointer (Some id)) ∷ []
  inv-to type id other (HasLeaves.to p) = refl

  inv-struct : (node : TypeId) (desc : Option Expr) (s : Structure) (plane : Plane) (trees : Trees) (other : List Leaf) → HasStructure program node s → slice_get planes node.0 ≡ Some plane
      → HasLeaves program planes at (ty.Node node desc) (Rec trees) other → FieldsHaveLeaves program planes at (types_of s.fields) plane.fields trees other
  inv-struct node desc s plane trees other has got (HasLeaves.struct {s = t} {plane = flat} h u g fields) =
      let same : t ≡ s = cc in
      let even : flat ≡ plane = cc in
      subst (λ p. FieldsHaveLeaves program planes at (types_of s.fields) p.fields trees other) even
      (subst (λ x. FieldsHaveLeaves program planes at (types_of x.fields) flat.fields trees other) same fields)

  inv-member : (node : TypeId) (desc : Option Expr) (s : Structure) (place : ℕ) (f : Field) (tree : Tree) (other : List Leaf) → HasStructure program node s → slice_get s.fields place ≡ Some f
      → HasLeaves program planes at (ty.Node node desc) (Alt (Some place) tree) other → HasLeaves program planes at f.ty tree other
  inv-member node desc s place f tree other has get (HasLeaves.member {s = t} {f = g} h u got part) =
      let same : t ≡ s = cc in
      let there : slice_get s.fields place ≡ Some g = subst (λ x. slice_get x.fields place ≡ Some g) same got in
      let equal : g ≡ f = cc in
      subst (λ x. HasLeaves program planes at x.ty tree other) equal part

  inv-common : (node common : TypeId) (desc : Option Expr) (s : Structure) (tree : Tree) (other : List Leaf) → Settled program → HasStructure program node s → IsCommon program s common
      → HasLeaves program planes at (ty.Node node desc) (Alt None tree) other → (inner : List Leaf) × HasLeaves program planes at (ty.Node common None) tree inner × (other ≡ filter is_number inner)
  inv-common node common desc s tree other settled has c (HasLeaves.common {common = common'} {s = t} {leaves = inner} h u o part) =
      let same : t ≡ s = cc in
      let there : IsCommon program s common' = subst (λ x. IsCommon program x common') same o in
      (inner, subst (λ n. HasLeaves program planes at (ty.Node n None) tree inner) (one-common program node s common' common settled has there c) part, refl)
  inv-common node common desc s tree other settled has c (HasLeaves.nothing {s = t} h u none) =
      let same : s ≡ t = cc in
      absurd (none common (subst (λ x. IsCommon program x common) same c))

  inv-nothing : (node : TypeId) (desc : Option Expr) (s : Structure) (tree : Tree) (other : List Leaf) → HasStructure program node s → ((common : TypeId) → ¬ IsCommon program s common)
      → HasLeaves program planes at (ty.Node node desc) (Alt None tree) other → other ≡ []
  inv-nothing node desc s tree other has none (HasLeaves.common {common} {s = t} h u o part) =
      let same : t ≡ s = cc in
      absurd (none common (subst (λ x. IsCommon program x common) same o))
  inv-nothing node desc s tree other has none (HasLeaves.nothing h u n) = refl

  inv-array : (type elem : Ty) (n : ℕ) (trees : Trees) (other : List Leaf) → out-Ty type ≡ part.Arr n elem → HasLeaves program planes at type (Row trees) other
      → EachHasLeaves program planes (8 * (extent_of planes elem).size) at elem trees other
  inv-array type elem n trees other e (HasLeaves.array {elem = elem'} o each) =
      let same : elem' ≡ elem = cc in
      subst (λ t. EachHasLeaves program planes (8 * (extent_of planes t).size) at t trees other) same each
  inv-array type elem n trees other e (HasLeaves.tail o each) = absurd (cc)

  inv-tail : (type elem : Ty) (long : Expr) (trees : Trees) (other : List Leaf) → out-Ty type ≡ part.Tail long elem → HasLeaves program planes at type (Row trees) other
      → EachHasLeaves program planes (8 * (extent_of planes elem).size) at elem trees other
  inv-tail type elem long trees other e (HasLeaves.array o each) = absurd (cc)
  inv-tail type elem long trees other e (HasLeaves.tail {elem = elem'} o each) =
      let same : elem' ≡ elem = cc in
      subst (λ t. EachHasLeaves program planes (8 * (extent_of planes t).size) at t trees other) same each

  inv-none : (other : List Leaf) → FieldsHaveLeaves program planes at [] [] End other → other ≡ []
  inv-none other FieldsHaveLeaves.none = refl

  inv-more : (type : Ty) (types : List Ty) (s : FieldSpot) (spots : List FieldSpot) (tree : Tree) (trees : Trees) (other : List Leaf) → FieldsHaveLeaves program planes at (type ∷ types) (s ∷ spots) (And tree trees) other
      → (first rest : List Leaf) × HasLeaves program planes (at + begin_at s) type tree first × FieldsHaveLeaves program planes at types spots trees rest × (other ≡ first ++ rest)
  inv-more type types s spots tree trees other (FieldsHaveLeaves.more {first} {rest} part parts) = (first, rest, part, parts, refl)

  inv-no_more : (stride : ℕ) (type : Ty) (other : List Leaf) → EachHasLeaves program planes stride at type End other → other ≡ []
  inv-no_more stride type other EachHasLeaves.no_more = refl

  inv-one_more : (stride : ℕ) (type : Ty) (tree : Tree) (trees : Trees) (other : List Leaf) → EachHasLeaves program planes stride at type (And tree trees) other
      → (first rest : List Leaf) × HasLeaves program planes at type tree first × EachHasLeaves program planes stride (at + stride) type trees rest × (other ≡ first ++ rest)
  inv-one_more stride type tree trees other (EachHasLeaves.one_more {first} {rest} part parts) = (first, rest, part, parts, refl)

joined : (a b c d : List Leaf) → a ≡ b → c ≡ d → a ++ c ≡ b ++ d
joined a b c d e f = cc

module _ (program : Program) (planes : List Plane) (settled : Settled program) where
  mutual
    pub unique : {at : ℕ} {type : Ty} {tree : Tree} {leaves : List Leaf} → HasLeaves program planes at type tree leaves
        → (other : List Leaf) → HasLeaves program planes at type tree other → other ≡ leaves
    unique (HasLeaves.number {at} {scalar} {n}) other o = inv-number scalar n other o
    unique (HasLeaves.bits {at} {unit} {width} {n}) other o = inv-bits unit width n other o
    unique (HasLeaves.opaque {at} {size} {align} {bytes}) other o = inv-opaque size align bytes other o
    unique (HasLeaves.null {at} {type} p) other o = inv-null type other o
    unique (HasLeaves.to {at} {type} {id} p) other o = inv-to type id other o
    unique (HasLeaves.struct {at} {node} {desc} {s} {plane} {trees} {leaves} has struct got fields) other o = unique_fields fields other (inv-struct node desc s plane trees other has got o)
    unique (HasLeaves.member {at} {node} {desc} {s} {place} {f} {tree} {leaves} has union get part) other o = unique part other (inv-member node desc s place f tree other has get o)
    unique (HasLeaves.common {at} {node} {common} {desc} {s} {tree} {leaves} has union c part) other o =
        let found = inv-common node common desc s tree other settled has c o in
        found.2 ∙ ap (filter is_number) (unique part found.0 found.1)
    unique (HasLeaves.nothing {at} {node} {desc} {s} has union none) other o = inv-nothing node desc s (Rec End) other has none o
    unique (HasLeaves.array {at} {type} {elem} {n} {trees} {leaves} e each) other o = unique_each each other (inv-array type elem n trees other e o)
    unique (HasLeaves.tail {at} {type} {elem} {length} {trees} {leaves} e each) other o = unique_each each other (inv-tail type elem length trees other e o)

    pub unique_fields : {at : ℕ} {types : List Ty} {spots : List FieldSpot} {trees : Trees} {leaves : List Leaf} → FieldsHaveLeaves program planes at types spots trees leaves
        → (other : List Leaf) → FieldsHaveLeaves program planes at types spots trees other → other ≡ leaves
    unique_fields FieldsHaveLeaves.none other o = inv-none other o
    unique_fields (FieldsHaveLeaves.more {at} {type} {types} {s} {spots} {tree} {trees} {first} {rest} part parts) other o =
        let found = inv-more type types s spots tree trees other o in
        found.4 ∙ joined found.0 first found.1 rest (unique part found.0 found.2) (unique_fields parts found.1 found.3)

    pub unique_each : {stride at : ℕ} {type : Ty} {trees : Trees} {leaves : List Leaf} → EachHasLeaves program planes stride at type trees leaves
        → (other : List Leaf) → EachHasLeaves program planes stride at type trees other → other ≡ leaves
    unique_each (EachHasLeaves.no_more {stride} {at} {type}) other o = inv-no_more stride type other o
    unique_each (EachHasLeaves.one_more {stride} {at} {type} {tree} {trees} {first} {rest} part parts) other o =
        let found = inv-one_more stride type tree trees other o in
        found.4 ∙ joined found.0 first found.1 rest (unique part found.0 found.2) (unique_each parts found.1 found.3)
