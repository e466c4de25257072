-- Structures have exactly one size at each capacity.
use Rattle.std.proofs.Common.{◌≡◌, ℕ, ◌+◌, ◌*◌, ◌≤◌, true, false, List, [], ◌∷◌, refl, ap, subst, arith, Option, Some, None}
use Rattle.std.specs.Prelude.{slice_get}
use Rattle.gt_types.specs.declared.expressions.Expr.{Expr}
use Rattle.gt_types.specs.declared.types.TypeId.{TypeId}
use Rattle.gt_types.specs.declared.types.Ty.{Ty}
use Rattle.gt_types.specs.declared.types.Ty.TheVariants as ty
use Rattle.gt_types.specs.declared.program.Field.{Field}
use Rattle.gt_types.specs.declared.program.Structure.{Structure}
use Rattle.gt_types.specs.declared.program.Program.{Program}
use Rattle.gt_layout.specs.declared.planes.Layouts.{Layouts}
use Rattle.gt_types.specs.Shapes.{is_structure}
use Rattle.gt_types.specs.Contains.{HasStructure}
use Rattle.gt_types.specs.Tails.{tail_of}
use Rattle.gt_types.specs.Settled.{Settled}
use Rattle.gt_layout.specs.declared.planes.Plane.{Plane}
use Rattle.gt_layout.specs.Storages.{extent_of, storage_of}
use Rattle.gt_layout.specs.Places.{end_of, last_offset}
use Rattle.gt_layout.specs.Planes.{IsLaidOut, IsSize}
use Rattle.gt_layout.specs.Capacity.{SizeAt, MemberEnds}
use Rattle.gt_layout.proofs.Sized.{sized}
use Rattle.gt_layout.proofs.Capacities.{positive}
use Rattle.gt_tree.specs.LeafLaws.{SizesAreOne}

same-size : (align : ℕ) (ends : List ℕ) (a b : ℕ) → IsSize align ends a → IsSize align ends b → a ≡ b
same-size align ends a b x y =
    let p : a ≤ b = x.least b y.room in
    let q : b ≤ a = y.least a x.room in
    omega arith

-- ---- at most one size

module _ {program : Program} {planes : List Plane} {capacity : ℕ} where
  inv-tail : (node : TypeId) (s : Structure) (plane : Plane) (elem : Ty) (other : ℕ) → HasStructure program node s → slice_get planes node.0 ≡ Some plane → s.is_union ≡ false
      → tail_of s.fields ≡ Some elem → SizeAt program planes capacity node other → IsSize plane.align (8 * (last_offset plane.fields + capacity * (extent_of planes elem).size) ∷ []) other
  inv-tail node s plane elem other has got struct t (SizeAt.of_tail {s = r} {plane = flat} {elem = e} h g u v sz) =
      let same : r ≡ s = cc in
      let even : flat ≡ plane = cc in
      let there : tail_of s.fields ≡ Some e = subst (λ x. tail_of x.fields ≡ Some e) same v in
      let equal : e ≡ elem = cc in
      subst (λ p. IsSize p.align (8 * (last_offset p.fields + capacity * (extent_of planes elem).size) ∷ []) other) even
      (subst (λ x. IsSize flat.align (8 * (last_offset flat.fields + capacity * (extent_of planes x).size) ∷ []) other) equal sz)
  inv-tail node s plane elem other has got struct t (SizeAt.of_union {s = r} h g u m sz) =
      let same : r ≡ s = cc in
      let union = subst (λ x. x.is_union ≡ true) same u in
      absurd (cc)
  inv-tail node s plane elem other has got struct t (SizeAt.of_struct {s = r} h g u v) =
      let same : r ≡ s = cc in
      let none = subst (λ x. tail_of x.fields ≡ None) same v in
      absurd (cc)

  inv-union : (node : TypeId) (s : Structure) (plane : Plane) (other : ℕ) → HasStructure program node s → slice_get planes node.0 ≡ Some plane → s.is_union ≡ true
      → SizeAt program planes capacity node other → (ends : List ℕ) × MemberEnds program planes capacity s.fields ends × IsSize plane.align ends other
  inv-union node s plane other has got union (SizeAt.of_union {s = r} {plane = flat} {ends = es} h g u m sz) =
      let same : r ≡ s = cc in
      let even : flat ≡ plane = cc in
      (es, subst (λ x. MemberEnds program planes capacity x.fields es) same m, subst (λ p. IsSize p.align es other) even sz)
  inv-union node s plane other has got union (SizeAt.of_tail {s = r} h g u t sz) =
      let same : r ≡ s = cc in
      let struct = subst (λ x. x.is_union ≡ false) same u in
      absurd (cc)
  inv-union node s plane other has got union (SizeAt.of_struct {s = r} h g u t) =
      let same : r ≡ s = cc in
      let struct = subst (λ x. x.is_union ≡ false) same u in
      absurd (cc)

  inv-struct : (node : TypeId) (s : Structure) (plane : Plane) (other : ℕ) → HasStructure program node s → slice_get planes node.0 ≡ Some plane → s.is_union ≡ false
      → tail_of s.fields ≡ None → SizeAt program planes capacity node other → other ≡ plane.size
  inv-struct node s plane other has got struct t (SizeAt.of_struct {s = r} {plane = flat} h g u v) = let even : flat ≡ plane = cc in ap (λ p. p.size) even
  inv-struct node s plane other has got struct t (SizeAt.of_tail {s = r} {elem = e} h g u v sz) =
      let same : r ≡ s = cc in
      let some = subst (λ x. tail_of x.fields ≡ Some e) same v in
      absurd (cc)
  inv-struct node s plane other has got struct t (SizeAt.of_union {s = r} h g u m sz) =
      let same : r ≡ s = cc in
      let union = subst (λ x. x.is_union ≡ true) same u in
      absurd (cc)

  inv-none : (other : List ℕ) → MemberEnds program planes capacity [] other → other ≡ []
  inv-none other MemberEnds.none = refl

  inv-structure : (f : Field) (fs : List Field) (node : TypeId) (desc : Option Expr) (other : List ℕ) → f.ty ≡ ty.Node node desc → MemberEnds program planes capacity (f ∷ fs) other
      → (size : ℕ) × (rest : List ℕ) × SizeAt program planes capacity node size × MemberEnds program planes capacity fs rest × (other ≡ 8 * size ∷ rest)
  inv-structure f fs node desc other e (MemberEnds.of_structure {node = n} {size = size} {ends = es} x sz rest) =
      let same : n ≡ node = cc in
      (size, es, subst (λ i. SizeAt program planes capacity i size) same sz, rest, refl)
  inv-structure f fs node desc other e (MemberEnds.of_field flat rest) = let o = ap is_structure e in absurd (cc)

  inv-field : (f : Field) (fs : List Field) (other : List ℕ) → is_structure f.ty ≡ false → MemberEnds program planes capacity (f ∷ fs) other
      → (rest : List ℕ) × MemberEnds program planes capacity fs rest × (other ≡ end_of (storage_of planes f.ty) 0 ∷ rest)
  inv-field f fs other e (MemberEnds.of_structure x sz rest) = let o = ap is_structure x in absurd (cc)
  inv-field f fs other e (MemberEnds.of_field {ends = es} flat rest) = (es, rest, refl)

module _ (program : Program) (planes : List Plane) (capacity : ℕ) where
  mutual
    one-size : {node : TypeId} {size : ℕ} → SizeAt program planes capacity node size → (other : ℕ) → SizeAt program planes capacity node other → other ≡ size
    one-size (SizeAt.of_tail {node} {s} {plane} {elem} {size} has got struct t sz) other o =
        same-size plane.align (8 * (last_offset plane.fields + capacity * (extent_of planes elem).size) ∷ []) other size (inv-tail node s plane elem other has got struct t o) sz
    one-size (SizeAt.of_union {node} {s} {plane} {ends} {size} has got union m sz) other o =
        let found = inv-union node s plane other has got union o in
        let same : found.0 ≡ ends = one-ends m found.0 found.1 in
        same-size plane.align ends other size (subst (λ es. IsSize plane.align es other) same found.2) sz
    one-size (SizeAt.of_struct {node} {s} {plane} has got struct t) other o = inv-struct node s plane other has got struct t o

    one-ends : {fields : List Field} {ends : List ℕ} → MemberEnds program planes capacity fields ends → (other : List ℕ) → MemberEnds program planes capacity fields other → other ≡ ends
    one-ends MemberEnds.none other o = inv-none other o
    one-ends (MemberEnds.of_structure {f} {fs} {node} {desc} {size} {ends} e sz rest) other o =
        let found = inv-structure f fs node desc other e o in
        let first = one-size sz found.0 found.2 in
        let more = one-ends rest found.1 found.3 in
        let all = found.4 in
        cc
    one-ends (MemberEnds.of_field {f} {fs} {ends} flat rest) other o =
        let found = inv-field f fs other flat o in
        let more = one-ends rest found.0 found.1 in
        let all = found.2 in
        cc

-- ---- exactly one size

pub sizes-one : (program : Program) (layouts : Layouts) → Settled program → IsLaidOut program layouts → SizesAreOne program layouts
sizes-one program layouts settled laid capacity node s has =
    let found = sized program layouts.structures capacity settled laid.structures (λ place plane at. positive program layouts.structures place plane laid.structures at) node s has in
    (found.0, found.1, one-size program layouts.structures capacity found.1)
