-- The elements of arrays of a program are not too large.
use Rattle.std.proofs.Common.{◌≡◌, ℕ, zero, suc, ◌+◌, ◌*◌, ◌≤◌, Bool, true, false, not, ◌&&◌, IsTrue, nat_le, List, [], ◌∷◌, refl, ap, sym, subst, ◌∙◌, arith, inl, inr, Some, None, mul-le-mul_right}
use Rattle.std.specs.Prelude.{All, Contains, slice_get}
use Rattle.std.specs.List.{list_all}
use Rattle.std.proofs.lemmas.Bool.{leb-true}
use Rattle.std.proofs.lemmas.List.Elements.{All-head, All-tail, All-contains}
use Rattle.std.proofs.lemmas.Option.{slice_get-get_or}
use Rattle.gt_types.specs.declared.expressions.Expr.{Expr}
use Rattle.gt_types.specs.declared.types.TypeId.{TypeId}
use Rattle.gt_types.specs.declared.types.Ty.{Ty, out-Ty}
use Rattle.gt_types.specs.declared.types.Ty.TheOpen as part
use Rattle.gt_types.specs.declared.types.Ty.TheVariants as ty
use Rattle.gt_types.specs.declared.types.Ty.TheVariants.{outs-Num, outs-Bits, outs-Opaque, outs-Str, outs-Ptr, outs-Node, outs-Arr', outs-Tail'}
use Rattle.gt_types.specs.declared.types.Ty.TheFolds.{fold_out-Ty, map-Ty}
use Rattle.gt_types.specs.declared.types.Scalar.TheVariants as scalar
use Rattle.gt_types.specs.declared.types.Width.TheVariants.{W1}
use Rattle.gt_types.specs.declared.types.Target.TheVariants as target
use Rattle.gt_types.specs.declared.types.PtrKind.TheVariants as pointer
use Rattle.gt_tree.specs.Blocks.{Kind, Nodes, Pointers, Strings, Chars, Raw, desc_of, element_type}
use Rattle.gt_store.proofs.BitLemmas.{below-or}
use Rattle.gt_types.specs.declared.program.Field.{Field}
use Rattle.gt_types.specs.declared.program.Structure.{Structure}
use Rattle.gt_types.specs.declared.program.Root.{Root}
use Rattle.gt_types.specs.declared.program.Program.{Program}
use Rattle.gt_types.specs.Shapes.{dimensions, is_bound, may_repeat, is_element, is_element_step, is_tail, field_type_at, root_type_at}
use Rattle.gt_types.specs.Contains.{HasStructure}
use Rattle.gt_types.specs.Tails.{elements_of, elements_at, tail_of, only_last_is_tail, no_tails}
use Rattle.gt_types.specs.Settled.{Settled, IsField, IsStruct, IsUnion, IsOfItsKind, IsRoot}
use Rattle.gt_layout.specs.declared.planes.Plane.{Plane}
use Rattle.gt_layout.specs.declared.planes.FieldSpot.{FieldSpot}
use Rattle.gt_layout.specs.declared.planes.Layouts.{Layouts}
use Rattle.gt_layout.specs.declared.planes.TheConstants.{MAX_SIZE}
use Rattle.gt_layout.specs.declared.storages.Storage.{Storage}
use Rattle.gt_layout.specs.declared.storages.Storage.TheVariants.{Bytes}
use Rattle.gt_layout.specs.Storages.{storage_of, storages_of, extent_of}
use Rattle.gt_layout.specs.Places.{Lie, Follow, Overlap, ends, end_at}
use Rattle.gt_layout.specs.Planes.{IsLaidOut, IsPlaneOf, root_storages}
use Rattle.gt_layout.specs.Excess.{IsWithin}
use Rattle.gt_tree.specs.LeafLaws.{IsTypeIn}
use Rattle.gt_tree.proofs.Types.{extent-array}
use Rattle.gt_tree.proofs.Structures.{get-as_long}
use Rattle.gt_tree.proofs.PathParts.{get-map}
use Rattle.gt_tree.proofs.FixedTypes.{element-no_tail, tail_element-no_tail}

-- ---- what ends inside

inside-follow : (from : ℕ) (fs : List Storage) (ss : List FieldSpot) (i : ℕ) (f : Storage) (b : ℕ) → Follow from fs ss → All (λ e. e ≤ b) (ends fs ss) → slice_get fs i ≡ Some f → (s : FieldSpot) × (end_at f s ≤ b)
inside-follow from [] ss i f b l a got = absurd (cc)
inside-follow from (g ∷ fs) [] i f b l a got = absurd l
inside-follow from (g ∷ fs) (s ∷ ss) zero f b l a got =
    let same : g ≡ f = cc in
    (s, subst (λ h. end_at h s ≤ b) same (All-head (λ e. e ≤ b) (end_at g s) (ends fs ss) a))
inside-follow from (g ∷ fs) (s ∷ ss) (suc i) f b l a got = inside-follow (end_at g s) fs ss i f b l.2 (All-tail (λ e. e ≤ b) (end_at g s) (ends fs ss) a) got

inside-overlap : (fs : List Storage) (ss : List FieldSpot) (i : ℕ) (f : Storage) (b : ℕ) → Overlap fs ss → All (λ e. e ≤ b) (ends fs ss) → slice_get fs i ≡ Some f → (s : FieldSpot) × (end_at f s ≤ b)
inside-overlap [] ss i f b l a got = absurd (cc)
inside-overlap (g ∷ fs) [] i f b l a got = absurd l
inside-overlap (g ∷ fs) (s ∷ ss) zero f b l a got =
    let same : g ≡ f = cc in
    (s, subst (λ h. end_at h s ≤ b) same (All-head (λ e. e ≤ b) (end_at g s) (ends fs ss) a))
inside-overlap (g ∷ fs) (s ∷ ss) (suc i) f b l a got = inside-overlap fs ss i f b l.1 (All-tail (λ e. e ≤ b) (end_at g s) (ends fs ss) a) got

inside-lie : (u : Bool) (fs : List Storage) (ss : List FieldSpot) (i : ℕ) (f : Storage) (b : ℕ) → Lie u fs ss → All (λ e. e ≤ b) (ends fs ss) → slice_get fs i ≡ Some f → (s : FieldSpot) × (end_at f s ≤ b)
inside-lie true fs ss i f b l a got = inside-overlap fs ss i f b l a got
inside-lie false fs ss i f b l a got = inside-follow 0 fs ss i f b l a got

-- the extent of a type that is whole bytes of a plane
plane-extent : (planes : List Plane) (u : Bool) (fs : List Storage) (plane : Plane) (i : ℕ) (type : Ty) → IsPlaneOf u fs plane → slice_get fs i ≡ Some (storage_of planes type) → storage_of planes type ≡ Bytes (extent_of planes type)
    → (extent_of planes type).size ≤ plane.size
plane-extent planes u fs plane i type is got bytes =
    let found = inside-lie u fs plane.fields i (storage_of planes type) (8 * plane.size) is.places is.size.room.inside got in
    let le : end_at (Bytes (extent_of planes type)) found.0 ≤ 8 * plane.size = subst (λ f. end_at f found.0 ≤ 8 * plane.size) bytes found.1 in
    omega (arith, le)

-- ---- the types of arrays

array-bytes : (planes : List Plane) (type elem : Ty) (n : ℕ) → out-Ty type ≡ part.Arr n elem → storage_of planes type ≡ Bytes (extent_of planes type)
array-bytes planes (ty.Bits unit width) elem n e = let o = outs-Bits unit width in absurd (cc)
array-bytes planes (ty.Num scalar) elem n e = refl
array-bytes planes (ty.Opaque size align) elem n e = refl
array-bytes planes (ty.Str count) elem n e = refl
array-bytes planes (ty.Ptr target kind reorder) elem n e = refl
array-bytes planes (ty.Node node desc) elem n e = refl
array-bytes planes (ty.Arr' m shape elem') elem n e = refl
array-bytes planes (ty.Tail' count shape elem') elem n e = refl

tail-is : (type elem : Ty) (len : Expr) → out-Ty type ≡ part.Tail len elem → is_tail type ≡ true
tail-is (ty.Bits unit width) elem n e = let o = outs-Bits unit width in absurd (cc)
tail-is (ty.Num scalar) elem n e = let o = outs-Num scalar in absurd (cc)
tail-is (ty.Opaque size align) elem n e = let o = outs-Opaque size align in absurd (cc)
tail-is (ty.Str count) elem n e = let o = outs-Str count in absurd (cc)
tail-is (ty.Ptr target kind reorder) elem n e = let o = outs-Ptr target kind reorder in absurd (cc)
tail-is (ty.Node node desc) elem n e = let o = outs-Node node desc in absurd (cc)
tail-is (ty.Arr' m shape elem') elem n e = let o = outs-Arr' m shape elem' in absurd (cc)
tail-is (ty.Tail' count shape elem') elem n e = refl

bound-one : (n : ℕ) → IsTrue (is_bound n) → 1 ≤ n
bound-one n h = leb-true 1 n (first-true (nat_le 1 n) (nat_le n 1048576) h)
  where
    first-true : (a b : Bool) → IsTrue (a && b) → IsTrue a
    first-true true b h = refl
    first-true false b h = absurd (cc)

first-of : (a b : Bool) → IsTrue (a && b) → IsTrue a
first-of true b h = refl
first-of false b h = absurd (cc)

second-of : (a b : Bool) → IsTrue (a && b) → IsTrue b
second-of true b h = h
second-of false b h = absurd (cc)

-- an element is not larger than its array
element-le : (planes : List Plane) (type elem : Ty) (n : ℕ) → out-Ty type ≡ part.Arr n elem → 1 ≤ n → (extent_of planes type).size ≤ MAX_SIZE → (extent_of planes elem).size ≤ MAX_SIZE
element-le planes type elem n e some le =
    let whole = extent-array planes type elem n e in
    let times : 1 * (extent_of planes elem).size ≤ n * (extent_of planes elem).size = mul-le-mul_right (extent_of planes elem).size some in
    omega (arith, whole, times, le)

-- ---- the last of fields

last-tail : (fields : List Field) (i : ℕ) (f : Field) (elem : Ty) (len : Expr) → slice_get fields i ≡ Some f → out-Ty f.ty ≡ part.Tail len elem → IsTrue (only_last_is_tail fields) → tail_of fields ≡ Some elem
last-tail [] i f elem len got e last = absurd (cc)
last-tail (g ∷ []) zero f elem len got e last = let same : g ≡ f = cc in ap (λ x. elements_of x.ty) same ∙ ap elements_at e
last-tail (g ∷ []) (suc i) f elem len got e last = absurd (cc)
last-tail (g ∷ h ∷ hs) zero f elem len got e last =
    let same : g ≡ f = cc in
    let t : is_tail g.ty ≡ true = ap (λ x. is_tail x.ty) same ∙ tail-is f.ty elem len e in
    let n = first-of (not (is_tail g.ty)) (only_last_is_tail (h ∷ hs)) last in
    let m = sym (ap not t) ∙ n in
    absurd (cc)
last-tail (g ∷ h ∷ hs) (suc i) f elem len got e last = last-tail (h ∷ hs) i f elem len got e (second-of (not (is_tail g.ty)) (only_last_is_tail (h ∷ hs)) last)

no-tail : (fields : List Field) (i : ℕ) (f : Field) (elem : Ty) (len : Expr) → slice_get fields i ≡ Some f → out-Ty f.ty ≡ part.Tail len elem → IsTrue (no_tails fields) → ⊥
no-tail [] i f elem len got e none = cc
no-tail (g ∷ gs) zero f elem len got e none =
    let same : g ≡ f = cc in
    let t : is_tail g.ty ≡ true = ap (λ x. is_tail x.ty) same ∙ tail-is f.ty elem len e in
    let n = first-of (not (is_tail g.ty)) (list_all (λ x. not (is_tail x.ty)) gs) none in
    let m = sym (ap not t) ∙ n in
    cc
no-tail (g ∷ gs) (suc i) f elem len got e none = no-tail gs i f elem len got e (second-of (not (is_tail g.ty)) (list_all (λ x. not (is_tail x.ty)) gs) none)

Contains-slice : {X : Type 0} (xs : List X) (x : X) → Contains xs x → (i : ℕ) × (slice_get xs i ≡ Some x)
Contains-slice xs x c = (c.0, slice_get-get_or xs c.0 x c.1 ∙ ap Some c.2)

-- ---- in a program

module _ (program : Program) (layouts : Layouts) (settled : Settled program) (laid : IsLaidOut program layouts) (within : IsWithin program layouts) where
  field-small : (node : TypeId) (s : Structure) (f : Field) → HasStructure program node s → Contains s.fields f → storage_of layouts.structures f.ty ≡ Bytes (extent_of layouts.structures f.ty)
      → (extent_of layouts.structures f.ty).size ≤ MAX_SIZE
  field-small node s f has contains bytes =
      let plane = get-as_long layouts.structures program.structures node.0 s laid.structures.all has in
      let at = Contains-slice s.fields f contains in
      let got = get-map (λ g. storage_of layouts.structures g.ty) s.fields at.0 f at.1 in
      let le = plane-extent layouts.structures s.is_union (storages_of layouts.structures s.fields) plane.0 at.0 f.ty (laid.structures.each node.0 s plane.0 has plane.1) got bytes in
      let not_large : plane.0.size ≤ MAX_SIZE = small plane.0 plane.1 in
      omega (arith, le, not_large)
    where
      small : (plane : Plane) → slice_get layouts.structures node.0 ≡ Some plane → plane.size ≤ MAX_SIZE
      small plane got = elim (below-or MAX_SIZE plane.size) [ inl lt ↦ absurd (within.structures node.0 (s, plane, has, got, inl lt)) | inr le ↦ le ]

  tail-small : (node : TypeId) (s : Structure) (f : Field) (elem : Ty) (len : Expr) → HasStructure program node s → Contains s.fields f → out-Ty f.ty ≡ part.Tail len elem → (extent_of layouts.structures elem).size ≤ MAX_SIZE
  tail-small node s f elem len has contains e = go s.is_union refl
    where
      at : (i : ℕ) × (slice_get s.fields i ≡ Some f)
      at = Contains-slice s.fields f contains

      go : (u : Bool) → s.is_union ≡ u → (extent_of layouts.structures elem).size ≤ MAX_SIZE
      go true union =
          let kind : IsUnion program node s = subst (IsOfItsKind program node s) union (settled.structures node s has).sort in
          absurd (no-tail s.fields at.0 f elem len at.1 e kind.tails)
      go false struct =
          let kind : IsStruct s = subst (IsOfItsKind program node s) struct (settled.structures node s has).sort in
          let plane = get-as_long layouts.structures program.structures node.0 s laid.structures.all has in
          let last = last-tail s.fields at.0 f elem len at.1 e kind.last_tail in
          elim (below-or MAX_SIZE (extent_of layouts.structures elem).size) [
            | inl lt ↦ absurd (within.structures node.0 (s, plane.0, has, plane.1, inr (elem, last, lt)))
            | inr le ↦ le
          ]

  root-small : (r : Root) → Contains program.roots r → storage_of layouts.structures r.ty ≡ Bytes (extent_of layouts.structures r.ty) → (extent_of layouts.structures r.ty).size ≤ MAX_SIZE
  root-small r contains bytes =
      let at = Contains-slice program.roots r contains in
      let got = get-map (λ (x : Root). storage_of layouts.structures x.ty) program.roots at.0 r at.1 in
      let le = plane-extent layouts.structures false (root_storages layouts.structures program.roots) layouts.statics at.0 r.ty laid.statics got bytes in
      omega (arith, le, within.statics)

  kind-no_array : (kind : Kind) (elem : Ty) (n : ℕ) → ¬ (out-Ty (element_type program kind) ≡ part.Arr n elem)
  kind-no_array (Nodes node) elem n e = let o = outs-Node node (desc_of (slice_get program.structures node.0)) in cc
  kind-no_array (Pointers node) elem n e = let o = outs-Ptr (Some (target.Node node)) pointer.Plain false in cc
  kind-no_array Strings elem n e = let o = outs-Str None in cc
  kind-no_array Chars elem n e = let o = outs-Num (scalar.Int W1 false) in cc
  kind-no_array Raw elem n e = let o = outs-Num (scalar.Int W1 false) in cc

  kind-no_tail : (kind : Kind) (elem : Ty) (len : Expr) → ¬ (out-Ty (element_type program kind) ≡ part.Tail len elem)
  kind-no_tail (Nodes node) elem n e = let o = outs-Node node (desc_of (slice_get program.structures node.0)) in cc
  kind-no_tail (Pointers node) elem n e = let o = outs-Ptr (Some (target.Node node)) pointer.Plain false in cc
  kind-no_tail Strings elem n e = let o = outs-Str None in cc
  kind-no_tail Chars elem n e = let o = outs-Num (scalar.Int W1 false) in cc
  kind-no_tail Raw elem n e = let o = outs-Num (scalar.Int W1 false) in cc

  nested-small : (type elem : Ty) (n : ℕ) → out-Ty type ≡ part.Arr n elem → ((extent_of layouts.structures type).size ≤ MAX_SIZE) × IsTrue (is_element type)
      → ((extent_of layouts.structures elem).size ≤ MAX_SIZE) × IsTrue (is_element elem)
  nested-small type elem n e up =
      let layer : is_element type ≡ (is_bound n && is_element elem) = fold_out-Ty Bool is_element_step type ∙ ap (λ x. is_element_step (map-Ty Ty Bool is_element x)) e in
      let both : IsTrue (is_bound n && is_element elem) = sym layer ∙ up.1 in
      (element-le layouts.structures type elem n e (bound-one n (first-of (is_bound n) (is_element elem) both)) up.0, second-of (is_bound n) (is_element elem) both)

  mutual
    -- the elements of an array of a program are small enough
    array-small : {type : Ty} → IsTypeIn program type → (elem : Ty) (n : ℕ) → out-Ty type ≡ part.Arr n elem → ((extent_of layouts.structures elem).size ≤ MAX_SIZE) × IsTrue (is_element elem)
    array-small (IsTypeIn.of_field node s f has contains) elem n e =
        let shape : IsTrue (field_type_at (part.Arr n elem)) = subst (λ x. IsTrue (field_type_at x)) e (All-contains (IsField program node s) s.fields f (settled.structures node s has).fields contains).shape in
        let whole = field-small node s f has contains (array-bytes layouts.structures f.ty elem n e) in (
          element-le layouts.structures f.ty elem n e (bound-one n (first-of (is_bound n) (may_repeat elem) shape)) whole,
          first-of (is_element elem) (nat_le (1 + dimensions elem) 4) (second-of (is_bound n) (may_repeat elem) shape),
        )
    array-small (IsTypeIn.of_root r contains) elem n e =
        let shape : IsTrue (root_type_at (part.Arr n elem)) = subst (λ x. IsTrue (root_type_at x)) e (All-contains (IsRoot program) program.roots r settled.roots contains).shape in
        let whole = root-small r contains (array-bytes layouts.structures r.ty elem n e) in (
          element-le layouts.structures r.ty elem n e (bound-one n (first-of (is_bound n) (may_repeat elem) shape)) whole,
          first-of (is_element elem) (nat_le (1 + dimensions elem) 4) (second-of (is_bound n) (may_repeat elem) shape),
        )
    array-small (IsTypeIn.of_block kind) elem n e = absurd (kind-no_array kind elem n e)
    array-small (IsTypeIn.of_array {type = outer} {elem = type} {n = m} i o) elem n e = nested-small type elem n e (array-small i type m o)
    array-small (IsTypeIn.of_tail {type = outer} {elem = type} {length = len} i o) elem n e = nested-small type elem n e (tails-small i type len o)

    tails-small : {type : Ty} → IsTypeIn program type → (elem : Ty) (len : Expr) → out-Ty type ≡ part.Tail len elem → ((extent_of layouts.structures elem).size ≤ MAX_SIZE) × IsTrue (is_element elem)
    tails-small (IsTypeIn.of_field node s f has contains) elem len e =
        let shape : IsTrue (field_type_at (part.Tail len elem)) = subst (λ x. IsTrue (field_type_at x)) e (All-contains (IsField program node s) s.fields f (settled.structures node s has).fields contains).shape in
        (tail-small node s f elem len has contains e, first-of (is_element elem) (nat_le (1 + dimensions elem) 4) shape)
    tails-small (IsTypeIn.of_root r contains) elem len e =
        let shape = subst (λ x. IsTrue (root_type_at x)) e (All-contains (IsRoot program) program.roots r settled.roots contains).shape in
        absurd (cc)
    tails-small (IsTypeIn.of_block kind) elem len e = absurd (kind-no_tail kind elem len e)
    tails-small (IsTypeIn.of_array {type = outer} {elem = type} {n = m} i o) elem len e = absurd (element-no_tail program outer type m settled i o len elem e)
    tails-small (IsTypeIn.of_tail {type = outer} {elem = type} {length = long} i o) elem len e = absurd (tail_element-no_tail program outer type long settled i o len elem e)

  pub array-narrow : (type elem : Ty) (n : ℕ) → IsTypeIn program type → out-Ty type ≡ part.Arr n elem → (extent_of layouts.structures elem).size ≤ MAX_SIZE
  array-narrow type elem n i e = (array-small i elem n e).0

  pub tail-narrow : (type elem : Ty) (len : Expr) → IsTypeIn program type → out-Ty type ≡ part.Tail len elem → (extent_of layouts.structures elem).size ≤ MAX_SIZE
  tail-narrow type elem len i e = (tails-small i elem len e).0
