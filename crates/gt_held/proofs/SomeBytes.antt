-- Structures of no tail type take one byte at least.
use Rattle.std.proofs.Common.{◌≡◌, ◌<◌, ◌≤◌, ℕ, zero, suc, ◌+◌, ◌-◌, ◌*◌, Bool, true, false, ◌&&◌, nat_le, IsTrue, get_or, List, [], ◌∷◌, length, All, Option, Some, refl, sym, ap, subst, ◌∙◌, arith}
use Rattle.std.specs.Prelude.{slice_get, is_some, Contains}
use Rattle.std.proofs.lemmas.Bool.{leb-true}
use Rattle.std.proofs.lemmas.List.Elements.{All-head, All-tail, All-contains}
use Rattle.std.proofs.lemmas.Option.{slice_get_within, slice_get-get_or}
use Rattle.gt_types.specs.declared.expressions.Expr.{Expr}
use Rattle.gt_types.specs.declared.types.Scalar.{Scalar}
use Rattle.gt_types.specs.declared.types.Scalar.TheVariants as scalar
use Rattle.gt_types.specs.declared.types.Width.TheVariants.{W1, W2, W4, W8}
use Rattle.gt_types.specs.declared.types.TypeId.{TypeId}
use Rattle.gt_types.specs.declared.types.Ty.{Ty, out-Ty}
use Rattle.gt_types.specs.declared.types.Ty.TheFolds.{fold_out-Ty, map-Ty}
use Rattle.gt_types.specs.declared.types.Ty.TheOpen as part
use Rattle.gt_types.specs.declared.types.Ty.TheOpen.{Ty-F}
use Rattle.gt_types.specs.declared.types.Ty.TheVariants as ty
use Rattle.gt_types.specs.declared.types.Ty.TheVariants.{outs-Num, outs-Bits, outs-Opaque, outs-Str, outs-Ptr, outs-Node, outs-Arr', outs-Tail'}
use Rattle.gt_types.specs.declared.program.Field.{Field}
use Rattle.gt_types.specs.declared.program.Structure.{Structure}
use Rattle.gt_types.specs.declared.program.Program.{Program}
use Rattle.gt_types.specs.Shapes.{dimensions, is_element, is_element_step, is_bound, is_opaque, is_structure, field_type_at, is_field_type}
use Rattle.gt_types.specs.Contains.{HasStructure, held_by}
use Rattle.gt_types.specs.Tails.{IsTailType, elements_at, tail_of}
use Rattle.gt_types.specs.Settled.{Settled, IsField, IsStruct, IsUnion, IsOfItsKind}
use Rattle.gt_layout.specs.declared.planes.Plane.{Plane}
use Rattle.gt_layout.specs.declared.planes.FieldSpot.{FieldSpot}
use Rattle.gt_layout.specs.declared.storages.Storage.{Storage}
use Rattle.gt_layout.specs.Storages.{bytes_of, extent_at, extent_of, extent_of_plane, storage_of, storages_of}
use Rattle.gt_layout.specs.Places.{end_of, end_at, begin_at, ends, Lie, last_offset}
use Rattle.gt_layout.specs.Planes.{AreLaidOut}
use Rattle.gt_layout.specs.Capacity.{SizeAt, MemberEnds}
use Rattle.gt_layout.specs.Progress.{IsWithinDepth, HoldsWithinDepth}
use Rattle.gt_layout.proofs.Capacities.{shallow_fields}
use Rattle.gt_tree.proofs.PathBits.{some-same}
use Rattle.gt_tree.proofs.Types.{extent-number, extent-opaque, extent-node, extent-array, extent-pointer, held-node, held-array, held-tail}
use Rattle.gt_value.proofs.Dimensions.{array-dimensions, tail-dimensions}
use Rattle.gt_value.proofs.ZeroSteps.{field-flat}
use Rattle.gt_held.proofs.Commons.{get-there}
use Rattle.gt_held.proofs.NoughtsThere.{HasNoTail, both-true, struct-fields, union-fields, IsPlainWithin, IsPlainInside, plain-inside}

-- ---- types

some-bytes : (scalar : Scalar) → 1 ≤ bytes_of scalar
some-bytes scalar.Bool = omega arith
some-bytes (scalar.Int W1 signed) = omega arith
some-bytes (scalar.Int W2 signed) = omega arith
some-bytes (scalar.Int W4 signed) = omega arith
some-bytes (scalar.Int W8 signed) = omega arith

some-times : (n size : ℕ) → 1 ≤ n → 1 ≤ size → 1 ≤ n * size
some-times n size a b = grind (arith, a, b)

bound-some : (n : ℕ) (b : Bool) → IsTrue (is_bound n && b) → (1 ≤ n) × IsTrue b
bound-some n b h =
    let both = both-true (is_bound n) b h in (leb-true 1 n (both-true (nat_le 1 n) _ both.0).0, both.1)

module _ (planes : List Plane) where
  -- the structure that a type holds takes some bytes
  abbrev HoldsSome : Ty → Type 0
  HoldsSome type = (node : TypeId) → held_by type ≡ Some node → 1 ≤ (extent_at planes node.0).size

  element-some : (dims : ℕ) (type : Ty) → dimensions type ≤ dims → IsTrue (is_element type) → HoldsSome type → 1 ≤ (extent_of planes type).size
  element-some dims (ty.Num scalar) flat is held = let size = extent-number planes scalar in let some = some-bytes scalar in omega (arith, size, some)
  element-some dims (ty.Bits unit width) flat is held = let e = fold_out-Ty Bool is_element_step (ty.Bits unit width) ∙ ap (λ y. is_element_step (map-Ty Ty Bool is_element y)) (outs-Bits unit width) in absurd (cc)
  element-some dims (ty.Opaque size align) flat is held = let e = fold_out-Ty Bool is_element_step (ty.Opaque size align) ∙ ap (λ y. is_element_step (map-Ty Ty Bool is_element y)) (outs-Opaque size align) in absurd (cc)
  element-some dims (ty.Str count) flat is held = let size = extent-pointer planes (ty.Str count) refl in omega (arith, size)
  element-some dims (ty.Ptr target kind reorder) flat is held = let size = extent-pointer planes (ty.Ptr target kind reorder) refl in omega (arith, size)
  element-some dims (ty.Node node desc) flat is held = subst (λ e. 1 ≤ e.size) (sym (extent-node planes node desc)) (held node (held-node node desc))
  element-some zero (ty.Arr' n shape elem) flat is held = let more = array-dimensions (ty.Arr' n shape elem) _ n (outs-Arr' n shape elem) in absurd (omega (arith, more, flat))
  element-some (suc dims) (ty.Arr' n shape elem) flat is held =
      let out = outs-Arr' n shape elem in
      let more = array-dimensions (ty.Arr' n shape elem) _ n out in
      let parts = bound-some n _ (subst IsTrue (fold_out-Ty Bool is_element_step (ty.Arr' n shape elem) ∙ ap (λ y. is_element_step (map-Ty Ty Bool is_element y)) out) is) in
      let one = element-some dims _ (omega (arith, more, flat)) parts.1 (λ node e. held node (held-array (ty.Arr' n shape elem) _ n out ∙ e)) in
      subst (λ k. 1 ≤ k) (sym (extent-array planes (ty.Arr' n shape elem) _ n out)) (some-times n _ parts.0 one)
  element-some dims (ty.Tail' count shape elem) flat is held = let e = fold_out-Ty Bool is_element_step (ty.Tail' count shape elem) ∙ ap (λ y. is_element_step (map-Ty Ty Bool is_element y)) (outs-Tail' count shape elem) in absurd (cc)

  field-some : (type : Ty) → IsTrue (is_field_type type) → HasNoTail type → HoldsSome type → (begin : ℕ) → 1 ≤ end_of (storage_of planes type) begin
  field-some (ty.Num scalar) is plain held begin = let size = extent-number planes scalar in let some = some-bytes scalar in omega (arith, size, some)
  field-some (ty.Bits unit width) is plain held begin =
      let some = leb-true 1 width (both-true (nat_le 1 width) _ (subst (λ x. IsTrue (field_type_at x)) (outs-Bits unit width) is)).0 in omega (arith, some)
  field-some (ty.Opaque size align) is plain held begin =
      let shaped : IsTrue (is_opaque size align) = subst (λ x. IsTrue (field_type_at x)) (outs-Opaque size align) is in
      let some = leb-true 1 size (both-true (nat_le 1 size) _ (both-true _ _ shaped).0).0 in
      let long = extent-opaque planes size align in omega (arith, some, long)
  field-some (ty.Str count) is plain held begin = let size = extent-pointer planes (ty.Str count) refl in omega (arith, size)
  field-some (ty.Ptr target kind reorder) is plain held begin = let size = extent-pointer planes (ty.Ptr target kind reorder) refl in omega (arith, size)
  field-some (ty.Node node desc) is plain held begin =
      let some = subst (λ e. 1 ≤ e.size) (sym (extent-node planes node desc)) (held node (held-node node desc)) in omega (arith, some)
  field-some (ty.Arr' n shape elem) is plain held begin =
      let out = outs-Arr' n shape elem in
      let flat = array-dimensions (ty.Arr' n shape elem) _ n out in
      let few = field-flat (ty.Arr' n shape elem) is in
      let parts = bound-some n _ (subst (λ x. IsTrue (field_type_at x)) out is) in
      let one = element-some 4 _ (omega (arith, flat, few)) (both-true (is_element _) _ parts.1).0 (λ node e. held node (held-array (ty.Arr' n shape elem) _ n out ∙ e)) in
      let size = extent-array planes (ty.Arr' n shape elem) _ n out in
      let some = some-times n _ parts.0 one in
      omega (arith, size, some)
  field-some (ty.Tail' count shape elem) is plain held begin = absurd (plain _ _ (outs-Tail' count shape elem))

  -- ---- structures

  first-end : (union : Bool) (f : Storage) (fs : List Storage) (spots : List FieldSpot) (bound : ℕ) → Lie union (f ∷ fs) spots → ((begin : ℕ) → 1 ≤ end_of f begin) → All (λ end. end ≤ bound) (ends (f ∷ fs) spots) → 1 ≤ bound
  first-end true f fs [] bound lie some inside = absurd lie
  first-end false f fs [] bound lie some inside = absurd lie
  first-end union f fs (s ∷ ss) bound lie some inside =
      let first = All-head (λ end. end ≤ bound) (end_at f s) (ends fs ss) inside in
      let least = some (begin_at s) in
      omega (arith, first, least)

  plane-by : (union : Bool) (fields : List Field) (spots : List FieldSpot) (size : ℕ) → 1 ≤ length fields → Lie union (storages_of planes fields) spots → ((f : Field) → Contains fields f → (begin : ℕ) → 1 ≤ end_of (storage_of planes f.ty) begin)
      → All (λ end. end ≤ 8 * size) (ends (storages_of planes fields) spots) → 1 ≤ size
  plane-by union [] spots size some lie each inside = absurd (omega (arith, some))
  plane-by union (f ∷ fs) spots size some lie each inside =
      let least = first-end union (storage_of planes f.ty) (storages_of planes fs) spots (8 * size) lie (each f (0, omega arith, refl)) inside in
      omega (arith, least)

-- the field in which the array at the end of a structure stands
last-tail : (fields : List Field) (elem : Ty) → tail_of fields ≡ Some elem → (f : Field) × (count : Expr) × Contains fields f × (out-Ty f.ty ≡ part.Tail count elem)
last-tail [] elem e = absurd (cc)
last-tail (f ∷ []) elem e = let at = layer-tail (out-Ty f.ty) elem e in (f, at.0, (0, omega arith, refl), at.1)
  where
    layer-tail : (x : Ty-F Ty) (elem : Ty) → elements_at x ≡ Some elem → (count : Expr) × (x ≡ part.Tail count elem)
    layer-tail (part.Tail count inner) elem e = let same : inner ≡ elem = cc in (count, ap (part.Tail count) same)
    layer-tail x elem e = absurd (cc)
last-tail (f ∷ g ∷ fs) elem e =
    let rest = last-tail (g ∷ fs) elem e in
    let within = rest.2.1 in
    (rest.0, rest.1, (suc rest.2.0, omega (arith, within), rest.2.2), rest.3)

module _ (program : Program) (settled : Settled program) (planes : List Plane) (laid : AreLaidOut program planes) where
  no-tails-in : (node : TypeId) (s : Structure) → HasStructure program node s → ¬ IsTailType program node → All (λ f. HasNoTail f.ty) s.fields
  no-tails-in node s has whole = by s.is_union refl
    where
      by : (union : Bool) → s.is_union ≡ union → All (λ f. HasNoTail f.ty) s.fields
      by true union = let sort : IsUnion program node s = subst (λ u. IsOfItsKind program node s u) union (settled.structures node s has).sort in union-fields s.fields sort.tails
      by false struct =
          let sort : IsStruct s = subst (λ u. IsOfItsKind program node s u) struct (settled.structures node s has).sort in
          struct-fields s.fields sort.last_tail (λ tail. whole (IsTailType.ends has struct tail))

  fields-some : (depth : ℕ) (node : TypeId) (s : Structure) → HasStructure program node s → IsWithinDepth program node.0 depth → ¬ IsTailType program node
      → ((inner : TypeId) → IsPlainInside program depth inner → 1 ≤ (extent_at planes inner.0).size) → (f : Field) → Contains s.fields f → (begin : ℕ) → 1 ≤ end_of (storage_of planes f.ty) begin
  fields-some depth node s has shallow whole inner f contains =
      field-some planes f.ty (All-contains (IsField program node s) s.fields f (settled.structures node s has).fields contains).shape
      (All-contains (λ (g : Field). HasNoTail g.ty) s.fields f (no-tails-in node s has whole) contains)
      (λ n held. inner n (plain-inside program settled depth node s has shallow whole f contains n held))

  plane-there : (node : TypeId) (s : Structure) → HasStructure program node s → (plane : Plane) × (slice_get planes node.0 ≡ Some plane)
  plane-there node s has = get-there planes node.0 (let within = slice_get_within program.structures node.0 s has in omega (arith, within, laid.all))

  plane-step : (depth : ℕ) (node : TypeId) → IsPlainWithin program depth node → ((inner : TypeId) → IsPlainInside program depth inner → 1 ≤ (extent_at planes inner.0).size) → 1 ≤ (extent_at planes node.0).size
  plane-step depth node (s, has, shallow, whole) inner =
      let found = plane-there node s has in
      let plane = laid.each node.0 s found.0 has found.1 in
      subst (λ o. 1 ≤ (extent_of_plane o).size) (sym found.1)
      (plane-by planes s.is_union s.fields found.0.fields found.0.size (settled.structures node s has).some_fields plane.places (fields-some depth node s has shallow whole inner) plane.size.room.inside)

  plane-some : (depth : ℕ) (node : TypeId) → IsPlainWithin program depth node → 1 ≤ (extent_at planes node.0).size
  plane-some zero node plain = plane-step zero node plain (λ n inside. absurd (omega (arith, inside.0)))
  plane-some (suc depth) node plain =
      plane-step (suc depth) node plain (λ n inside. plane-some depth n (let less : suc depth - 1 ≡ depth = omega arith in subst (λ d. IsPlainWithin program d n) less inside.1))

  inner-some : (depth : ℕ) (inner : TypeId) → IsPlainInside program depth inner → 1 ≤ (extent_at planes inner.0).size
  inner-some depth inner inside = plane-some (depth - 1) inner inside.1

  -- ---- sizes

  members-some : (fields : List Field) (ends : List ℕ) (bound : ℕ) → 1 ≤ length fields → MemberEnds program planes 0 fields ends → ((f : Field) → Contains fields f → (begin : ℕ) → 1 ≤ end_of (storage_of planes f.ty) begin)
      → ((f : Field) → Contains fields f → (node : TypeId) → held_by f.ty ≡ Some node → (size : ℕ) → SizeAt program planes 0 node size → 1 ≤ size) → All (λ end. end ≤ bound) ends → 1 ≤ bound
  members-some fields ends bound some MemberEnds.none each sizes inside = absurd (omega (arith, some))
  members-some fields ends bound some (MemberEnds.of_structure {f} {fs} {node} {desc} {size} {ends = rest} is sized more) each sizes inside =
      let least = sizes f (0, omega arith, refl) node (ap held_by is ∙ held-node node desc) size sized in
      let first = All-head (λ end. end ≤ bound) (8 * size) rest inside in
      omega (arith, least, first)
  members-some fields ends bound some (MemberEnds.of_field {f} {fs} {ends = rest} is more) each sizes inside =
      let least = each f (0, omega arith, refl) 0 in
      let first = All-head (λ end. end ≤ bound) (end_of (storage_of planes f.ty) 0) rest inside in
      omega (arith, least, first)

  size-step : (depth : ℕ) (node : TypeId) → IsPlainWithin program depth node → ((inner : TypeId) → IsPlainInside program depth inner → (size : ℕ) → SizeAt program planes 0 inner size → 1 ≤ size)
      → (size : ℕ) → SizeAt program planes 0 node size → 1 ≤ size
  size-step depth node (s, has, shallow, whole) inner size (SizeAt.of_tail {s = t} there got struct tail sized) =
      absurd (whole (IsTailType.ends there struct (ap is_some tail)))
  size-step depth node (s, has, shallow, whole) inner size (SizeAt.of_struct {s = t} {plane} there got struct tail) =
      subst (λ o. 1 ≤ (extent_of_plane o).size) got (plane-some depth node (s, has, shallow, whole))
  size-step depth node (s, has, shallow, whole) inner size (SizeAt.of_union {s = t} {plane} {ends} there got union members sized) =
      let least = members-some t.fields ends (8 * size) (settled.structures node t there).some_fields members (fields-some depth node t there shallow whole (inner-some depth))
      (λ f contains n held. inner n (plain-inside program settled depth node t there shallow whole f contains n held)) sized.room.inside in
      omega (arith, least)

  pub size-some : (depth : ℕ) (node : TypeId) → IsPlainWithin program depth node → (size : ℕ) → SizeAt program planes 0 node size → 1 ≤ size
  size-some zero node plain = size-step zero node plain (λ n inside. absurd (omega (arith, inside.0)))
  size-some (suc depth) node plain =
      size-step (suc depth) node plain (λ n inside. size-some depth n (let less : suc depth - 1 ≡ depth = omega arith in subst (λ d. IsPlainWithin program d n) less inside.1))

  -- ---- sizes of tail types

  -- the array at the end of a struct has elements of one byte at least
  tail-elements : (node : TypeId) (s : Structure) (elem : Ty) → HasStructure program node s → s.is_union ≡ false → tail_of s.fields ≡ Some elem → 1 ≤ (extent_of planes elem).size
  tail-elements node s elem has struct e =
      let last = last-tail s.fields elem e in
      let good = All-contains (IsField program node s) s.fields last.0 (settled.structures node s has).fields last.2 in
      let shaped = (both-true (is_element elem) _ (subst (λ x. IsTrue (field_type_at x)) last.3 good.shape)).0 in
      let more = tail-dimensions last.0.ty elem last.1 last.3 in
      let flat = field-flat last.0.ty good.shape in
      element-some planes 4 elem (omega (arith, more, flat)) shaped
      (λ inner held.
      let by_value = held-tail last.0.ty elem last.1 last.3 ∙ held in
      let deep = shallow_fields program node.0 32 s s.fields settled has (λ n below nests. settled.depth n node below nests) refl in
      let there = All-contains (λ (g : Field). HoldsWithinDepth program g.ty 32) s.fields last.0 deep last.2 inner by_value in
      plane-some 32 inner (
        get_or program.structures inner.0 s,
        slice_get-get_or program.structures inner.0 s there.0,
        λ n below nests. settled.depth n inner below nests,
        λ of. let kept = good.tails inner by_value of in let both = sym struct ∙ kept.0 in cc,
      ))

  times-some : (n size : ℕ) → 1 ≤ size → n ≤ n * size
  times-some n size some = grind (arith, some)

  member-size : (n : ℕ) (fields : List Field) (ends : List ℕ) (bound k : ℕ) (f : Field) (node : TypeId) (desc : Option Expr) → MemberEnds program planes n fields ends → k < length fields → get_or fields k f ≡ f → f.ty ≡ ty.Node node desc
      → All (λ end. end ≤ bound) ends → (size : ℕ) × SizeAt program planes n node size × (8 * size ≤ bound)
  member-size n fields ends bound k f node desc MemberEnds.none within at is inside = absurd (omega (arith, within))
  member-size n fields ends bound zero f node desc (MemberEnds.of_structure {f = g} {fs} {node = other} {size} {ends = rest} e sized more) within at is inside =
      let types : ty.Node other _ ≡ ty.Node node desc = sym e ∙ ap (λ (x : Field). x.ty) at ∙ is in
      let same : other ≡ node = some-same (held_by (ty.Node other _)) other node (held-node other _) (ap held_by types ∙ held-node node desc) in
      (size, subst (λ x. SizeAt program planes n x size) same sized, All-head (λ end. end ≤ bound) (8 * size) rest inside)
  member-size n fields ends bound zero f node desc (MemberEnds.of_field {f = g} {fs} {ends = rest} e more) within at is inside =
      absurd (let kind = ap is_structure (ap (λ (x : Field). x.ty) at ∙ is) in let both : false ≡ true = sym e ∙ kind in cc)
  member-size n fields ends bound (suc k) f node desc (MemberEnds.of_structure {fs} {size} {ends = rest} e sized more) within at is inside =
      member-size n fs rest bound k f node desc more (omega (arith, within)) at is (All-tail (λ end. end ≤ bound) (8 * size) rest inside)
  member-size n fields ends bound (suc k) f node desc (MemberEnds.of_field {f = g} {fs} {ends = rest} e more) within at is inside =
      member-size n fs rest bound k f node desc more (omega (arith, within)) at is (All-tail (λ end. end ≤ bound) (end_of (storage_of planes g.ty) 0) rest inside)

  -- a structure of a tail type takes one byte at least for each element for which there is room at its end
  pub tail-size : (n : ℕ) (node : TypeId) → IsTailType program node → (size : ℕ) → SizeAt program planes n node size → n ≤ size
  tail-size n node (IsTailType.ends {s} has struct tail) size (SizeAt.of_tail {s = t} {plane} {elem} there got kind e sized) =
      let some = tail-elements node t elem there kind e in
      let inside = All-head (λ end. end ≤ 8 * size) (8 * (last_offset plane.fields + n * (extent_of planes elem).size)) [] sized.room.inside in
      let many = times-some n (extent_of planes elem).size some in
      omega (arith, inside, many)
  tail-size n node (IsTailType.ends {s} has struct tail) size (SizeAt.of_union {s = t} there got union members sized) =
      let same : s ≡ t = some-same (slice_get program.structures node.0) s t has there in
      absurd (let both : false ≡ true = sym struct ∙ ap (λ (x : Structure). x.is_union) same ∙ union in cc)
  tail-size n node (IsTailType.ends {s} has struct tail) size (SizeAt.of_struct {s = t} there got kind none) =
      let same : s ≡ t = some-same (slice_get program.structures node.0) s t has there in
      absurd (let both : true ≡ false = sym tail ∙ ap (λ (x : Structure). is_some (tail_of x.fields)) same ∙ ap is_some none in cc)
  tail-size n node (IsTailType.has_member {member} {s} {f} {desc} has union contains is part) size (SizeAt.of_union {s = t} {ends} there got kind members sized) =
      let same : s ≡ t = some-same (slice_get program.structures node.0) s t has there in
      let own : Contains t.fields f = subst (λ (x : Structure). Contains x.fields f) same contains in
      let found = member-size n t.fields ends (8 * size) own.0 f member desc members own.1 own.2 is sized.room.inside in
      let least = tail-size n member part found.0 found.1 in
      let inside = found.2 in
      omega (arith, least, inside)
  tail-size n node (IsTailType.has_member {s} has union contains is part) size (SizeAt.of_tail {s = t} there got kind e sized) =
      let same : s ≡ t = some-same (slice_get program.structures node.0) s t has there in
      absurd (let both : true ≡ false = sym union ∙ ap (λ (x : Structure). x.is_union) same ∙ kind in cc)
  tail-size n node (IsTailType.has_member {s} has union contains is part) size (SizeAt.of_struct {s = t} there got kind none) =
      let same : s ≡ t = some-same (slice_get program.structures node.0) s t has there in
      absurd (let both : true ≡ false = sym union ∙ ap (λ (x : Structure). x.is_union) same ∙ kind in cc)
