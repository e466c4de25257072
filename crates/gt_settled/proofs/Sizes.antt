-- Structures take at least a byte, but for those that end in an array with a length; so bytes that are passed over have a size.
use Rattle.std.proofs.Common.{◌≡◌, ◌∙◌, inl, inr, ℕ, zero, suc, ◌*◌, ◌≤◌, max, min, Bool, true, false, not, ◌&&◌, ◌||◌, nat_le, List, [], ◌∷◌, length, map, Option, Some, None, IsTrue, refl, sym, ap, subst, arith}
use Rattle.std.specs.Prelude.{All, Contains, codes, slice_get, if◌then◌else◌}
use Rattle.std.specs.List.{list_any}
use Rattle.std.specs.Option.{option_map_or}
use Rattle.std.proofs.lemmas.Bool.{cases_lt, le-leb}
use Rattle.std.proofs.lemmas.List.Elements.{All-contains, All-head, All-nil, All-tail}
use Rattle.std.proofs.lemmas.Nat.{mul-le}
use Rattle.std.proofs.lemmas.Option.{slice_get_within}
use Rattle.gt_types.specs.declared.expressions.Expr.{Expr}
use Rattle.gt_types.specs.declared.limits.TheConstants.{MAX_DEPTH, TOO_LARGE}
use Rattle.gt_types.specs.declared.types.Scalar.{Scalar}
use Rattle.gt_types.specs.declared.types.Scalar.TheVariants as scalar
use Rattle.gt_types.specs.declared.types.Width.TheVariants.{W1, W2, W4, W8}
use Rattle.gt_types.specs.declared.types.Target.{Target}
use Rattle.gt_types.specs.declared.types.PtrKind.{PtrKind}
use Rattle.gt_types.specs.declared.types.PtrKind.TheVariants as kind
use Rattle.gt_types.specs.declared.types.TypeId.{TypeId}
use Rattle.gt_types.specs.declared.types.Ty.{Ty}
use Rattle.gt_types.specs.declared.types.Ty.TheVariants as ty
use Rattle.gt_types.specs.declared.types.Ty.TheOpen as part
use Rattle.gt_types.specs.declared.types.Ty.TheFolds.{fold-roll-Ty}
use Rattle.gt_types.specs.declared.program.Field.{Field}
use Rattle.gt_types.specs.declared.program.Structure.{Structure}
use Rattle.gt_types.specs.declared.program.Program.{Program}
use Rattle.gt_types.specs.Shapes.{field_type_at, is_field_type, is_tail}
use Rattle.gt_items.specs.declared.items.Stars.{Stars}
use Rattle.gt_items.specs.declared.items.Stars.TheVariants.{Zero, One, Two, More}
use Rattle.gt_layout.specs.declared.planes.Extent.{Extent}
use Rattle.gt_layout.specs.declared.planes.Plane.{Plane}
use Rattle.gt_layout.specs.declared.planes.FieldSpot.{FieldSpot}
use Rattle.gt_layout.specs.declared.storages.Storage.{Storage}
use Rattle.gt_layout.specs.declared.storages.Storage.TheVariants.{Bytes, Bits}
use Rattle.gt_layout.specs.Storages.{bytes_of, extent, extent_at, extent_of, extent_of_plane, extent_step, storage_of, storages_of}
use Rattle.gt_layout.specs.Places.{Lie, ends, end_at, align_of}
use Rattle.gt_layout.specs.Planes.{AreLaidOut, IsPlane, IsPlaneOf, greatest, is_alignment, is_placeable}
use Rattle.gt_drafts.specs.declared.types.Amount.{Amount}
use Rattle.gt_drafts.specs.declared.types.BaseType.{BaseType}
use Rattle.gt_drafts.specs.declared.types.BaseType.TheVariants as base
use Rattle.gt_drafts.specs.declared.types.DeclaredType.{DeclaredType}
use Rattle.gt_drafts.specs.declared.draft.Draft.{Draft}
use Rattle.gt_drafts.specs.declared.draft.DraftField.{DraftField}
use Rattle.gt_drafts.specs.declared.draft.DraftStructure.{DraftStructure}
use Rattle.gt_drafts.specs.Options.{has_option, has_skip, has_length}
use Rattle.gt_drafts.specs.Undefined.{has_no_target, is_sizeless, is_undefined_type, is_unknown, is_zero, names_undefined}
use Rattle.gt_drafts.specs.Shapes.{IsNested, IsTail, struct_tail, union_tail, ends_in_tail, held_type, is_nil, member_structure, structure_by_value}
use Rattle.gt_markers.specs.declared.type_options.TypeOptions.{TypeOptions}
use Rattle.gt_markers.specs.Expressions.{constants}
use Rattle.gt_markers.specs.MarkerFaults.{draft_faults, is_empty}
use Rattle.gt_markers.specs.Sound.{IsBound, AreBounds, IsSound, IsSoundField}
use Rattle.gt_markers.specs.Typing.{amount, arrays, base_extent, elements, node, of_elements, opaque_type, pointer_extent, says, single_extent}
use Rattle.gt_declare.specs.Programs.{field_of, field_type, program_by}
use Rattle.gt_declare.proofs.LayingSteps.{held_there}
use Rattle.gt_declare.proofs.StructurePlanes.{inner_shallow, placeable_fields}
use Rattle.gt_settled.proofs.Drafts.{FieldFine, FieldsFine, fields_fine, structure_fields}
use Rattle.gt_settled.proofs.Good.{present}
use Rattle.gt_settled.proofs.Inside.{field_sound, structure_sound}
use Rattle.gt_settled.proofs.Lists.{in_filtered, in_head, place_of}
use Rattle.gt_settled.proofs.Made.{structure_at, structures_length}
use Rattle.gt_settled.proofs.Markers.{or_first, or_second}
use Rattle.gt_settled.proofs.Shape.{and_first, and_true, array_bounds, bounds_false}
use Rattle.gt_settled.proofs.Structures.{BytesGood}
use Rattle.gt_settled.proofs.Tails.{not_tail, tail_by, view}
use Rattle.gt_settled.proofs.Types.{Single, number, structure, atomic, pointer, pointers, string, strings, undefined, Walked, bits, single, array, tail, OfField, opaque, skipped_bits, skipped_number, walked}

-- ---- numbers

times_some : (a b : ℕ) → 1 ≤ a → 1 ≤ b → 1 ≤ a * b
times_some a b some more = mul-le 1 1 a b some more

-- ---- alignments

bytes_aligned : (s : Scalar) → is_alignment (bytes_of s) ≡ true
bytes_aligned scalar.Bool = refl
bytes_aligned (scalar.Int W1 signed) = refl
bytes_aligned (scalar.Int W2 signed) = refl
bytes_aligned (scalar.Int W4 signed) = refl
bytes_aligned (scalar.Int W8 signed) = refl

max_aligned : (a b : ℕ) → is_alignment a ≡ true → is_alignment b ≡ true → is_alignment (max a b) ≡ true
max_aligned a b p q = elim (cases_lt a b) [
  | inl lower ↦ let same : b ≡ max a b = omega (arith, lower) in ap is_alignment (sym same) ∙ q
  | inr upper ↦ let same : a ≡ max a b = omega (arith, upper) in ap is_alignment (sym same) ∙ p
]

place_aligned : (s : Storage) → is_placeable s ≡ true → is_alignment (align_of s) ≡ true
place_aligned (Bytes e) good = good
place_aligned (Bits unit count) good =
    and_first (is_alignment unit) (nat_le 1 count) (and_first (is_alignment unit && nat_le 1 count) (nat_le count (8 * unit)) good)

greatest_aligned : (planes : List Plane) (fs : List Field) → All (λ f. IsTrue (is_placeable (storage_of planes f.ty))) fs → is_alignment (greatest (map align_of (storages_of planes fs))) ≡ true
greatest_aligned planes [] good = refl
greatest_aligned planes (f ∷ fs) good =
    max_aligned (align_of (storage_of planes f.ty)) (greatest (map align_of (storages_of planes fs)))
    (place_aligned (storage_of planes f.ty) (All-head (λ (g : Field). IsTrue (is_placeable (storage_of planes g.ty))) f fs good))
    (greatest_aligned planes fs (All-tail (λ (g : Field). IsTrue (is_placeable (storage_of planes g.ty))) f fs good))

-- ---- sizes

-- a storage takes some room
abbrev Takes : Storage → Type 0
Takes (Bytes e) = 1 ≤ e.size
Takes (Bits unit count) = 1 ≤ count

end_some : (f : Storage) (s : FieldSpot) (size : ℕ) → end_at f s ≤ 8 * size → Takes f → 1 ≤ size
end_some (Bytes e) s size inside some = omega (arith, inside, some)
end_some (Bits unit count) s size inside some = omega (arith, inside, some)

plane_by : (union : Bool) (f : Storage) (fs : List Storage) (spots : List FieldSpot) (size : ℕ) → Lie union (f ∷ fs) spots → All (λ end. end ≤ 8 * size) (ends (f ∷ fs) spots) → Takes f → 1 ≤ size
plane_by true f fs [] size lie inside some = absurd lie
plane_by false f fs [] size lie inside some = absurd lie
plane_by union f fs (s ∷ ss) size lie inside some = end_some f s size (All-head (λ (end : ℕ). end ≤ 8 * size) (end_at f s) (ends fs ss) inside) some

bytes_some : (s : Scalar) → 1 ≤ bytes_of s
bytes_some scalar.Bool = omega arith
bytes_some (scalar.Int W1 signed) = omega arith
bytes_some (scalar.Int W2 signed) = omega arith
bytes_some (scalar.Int W4 signed) = omega arith
bytes_some (scalar.Int W8 signed) = omega arith

module _ (p : List Plane) where
  of_extent : (type : Ty) (e : Extent) → extent_of p type ≡ e → 1 ≤ e.size → 1 ≤ (extent_of p type).size
  of_extent type e is some = subst (λ (x : Extent). 1 ≤ x.size) (sym is) some

  size-num : (s : Scalar) → 1 ≤ (extent_of p (ty.Num s)).size
  size-num s = of_extent (ty.Num s) (extent (bytes_of s) (bytes_of s)) (ap (extent_of p) (sym (ty.rolls-Num s)) ∙ fold-roll-Ty Extent (extent_step p) (part.Num s)) (bytes_some s)

  size-ptr : (t : Option Target) (k : PtrKind) (r : Bool) → 1 ≤ (extent_of p (ty.Ptr t k r)).size
  size-ptr t k r = of_extent (ty.Ptr t k r) (extent 8 8) (ap (extent_of p) (sym (ty.rolls-Ptr t k r)) ∙ fold-roll-Ty Extent (extent_step p) (part.Ptr t k r)) (omega arith)

  size-str : (c : Option Expr) → 1 ≤ (extent_of p (ty.Str c)).size
  size-str c = of_extent (ty.Str c) (extent 8 8) (ap (extent_of p) (sym (ty.rolls-Str c)) ∙ fold-roll-Ty Extent (extent_step p) (part.Str c)) (omega arith)

  size-node : (id : TypeId) (d : Option Expr) → 1 ≤ (extent_at p id.0).size → 1 ≤ (extent_of p (ty.Node id d)).size
  size-node id d some = of_extent (ty.Node id d) (extent_at p id.0) (ap (extent_of p) (sym (ty.rolls-Node id d)) ∙ fold-roll-Ty Extent (extent_step p) (part.Node id d)) some

  size-arr : (n : ℕ) (e : Ty) → 1 ≤ n → 1 ≤ (extent_of p e).size → 1 ≤ (extent_of p (ty.Arr n e)).size
  size-arr n e some more =
      of_extent (ty.Arr n e) (extent (n * (extent_of p e).size) (extent_of p e).align) (ap (extent_of p) (sym (ty.rolls-Arr n e)) ∙ fold-roll-Ty Extent (extent_step p) (part.Arr n e))
      (times_some n (extent_of p e).size some more)

  size-opaque : (size align : ℕ) → 1 ≤ size → 1 ≤ (extent_of p (ty.Opaque size align)).size
  size-opaque size align some = of_extent (ty.Opaque size align) (extent size align) (ap (extent_of p) (sym (ty.rolls-Opaque size align)) ∙ fold-roll-Ty Extent (extent_step p) (part.Opaque size align)) some

  amount_some : (bound : Amount) → IsBound bound → 1 ≤ amount bound
  amount_some bound (n, is, some, few) = let same : amount bound ≡ n = ap amount is in omega (arith, same, some)

  arrays_some : (bounds : List Amount) (e : Ty) → All IsBound bounds → 1 ≤ (extent_of p e).size → 1 ≤ (extent_of p (arrays bounds e)).size
  arrays_some [] e all some = some
  arrays_some (bound ∷ bounds) e all some =
      size-arr (amount bound) (arrays bounds e) (amount_some bound (All-head IsBound bound bounds all)) (arrays_some bounds e (All-tail IsBound bound bounds all) some)

  elements_some : (bounds : List Amount) → All IsBound bounds → 1 ≤ elements bounds
  elements_some [] all = omega arith
  elements_some (bound ∷ bounds) all = times_some (amount bound) (elements bounds) (amount_some bound (All-head IsBound bound bounds all)) (elements_some bounds (All-tail IsBound bound bounds all))

  -- ---- one type, where what it holds takes something

  module _ (draft : Draft) (in_union : Bool) (f : DraftField) (sound : IsSoundField draft in_union f) (inside : (id : ℕ) → held_type f.ty ≡ Some id → 1 ≤ (extent_at p id).size) where
    holds : (id : ℕ) → f.ty.is_function ≡ false → f.ty.resolved.base ≡ base.Structure id → f.ty.resolved.stars ≡ Zero → held_type f.ty ≡ Some id
    holds id function b z =
        ap (λ (x : Bool). if x then None else structure_by_value f.ty.resolved.base f.ty.resolved.stars) function
        ∙ ap (λ (x : BaseType). structure_by_value x f.ty.resolved.stars) b ∙ ap (λ (x : Stars). structure_by_value (base.Structure id) x) z

    single_some : (o : TypeOptions) → f.ty.is_function ≡ false → {type : Ty} → Single draft o f.ty type → 1 ≤ (extent_of p type).size
    single_some o function (number {s = s} b z) = size-num s
    single_some o function (structure {id = id} b z) = size-node (node id) _ (inside id (holds id function b z))
    single_some o function (atomic a z) = size-ptr None kind.Atomic o.reorder
    single_some o function (pointer b one) = size-ptr _ _ o.reorder
    single_some o function (pointers b two l) = size-ptr _ _ o.reorder
    single_some o function (string b one) = size-str o.string_length
    single_some o function (strings b two l) = size-ptr _ _ o.reorder
    single_some o function (undefined b one m) = size-ptr None kind.Undef o.reorder

    single_takes : (o : TypeOptions) → f.ty.is_function ≡ false → {type : Ty} → Single draft o f.ty type → Takes (storage_of p type)
    single_takes o function (number {s = s} b z) = single_some o function (number b z)
    single_takes o function (structure {id = id} b z) = single_some o function (structure b z)
    single_takes o function (atomic a z) = single_some o function (atomic a z)
    single_takes o function (pointer b one) = single_some o function (pointer b one)
    single_takes o function (pointers b two l) = single_some o function (pointers b two l)
    single_takes o function (string b one) = single_some o function (string b one)
    single_takes o function (strings b two l) = single_some o function (strings b two l)
    single_takes o function (undefined b one m) = single_some o function (undefined b one m)

    walked_takes : has_skip f.options ≡ false → {type : Ty} → Walked draft (says (constants draft) f.options) f.ty type → is_tail type ≡ false → Takes (storage_of p type)
    walked_takes skip (bits has some most) e = some
    walked_takes skip (single function b is) e = single_takes (says (constants draft) f.options) function is
    walked_takes skip (array {bound = bound} {bounds = bounds} {elem = elem} function b none is) e =
        let all = array_bounds (constants draft) f.options f.ty skip sound.type.bounds bound bounds b none in
        size-arr (amount bound) (arrays bounds elem) (amount_some bound (All-head IsBound bound bounds all))
        (arrays_some bounds elem (All-tail IsBound bound bounds all) (single_some (of_elements (says (constants draft) f.options)) function is))
    walked_takes skip (tail function b l is) e = absurd (cc)

    -- a type by value that has no size
    sized : (b : BaseType) → f.ty.resolved.base ≡ b → f.ty.resolved.stars ≡ Zero → is_sizeless b ≡ true → has_no_target f.options f.ty.resolved ≡ false → ⊥
    sized b b_is s_is none sizes =
        let sizeless : has_no_target f.options f.ty.resolved ≡ true =
        ap (λ (x : Stars). has_no_target f.options (record (f.ty.resolved) { stars = x })) s_is ∙ ap is_sizeless b_is ∙ none in
        let never : true ≡ false = sym sizeless ∙ sizes in cc

    -- a size that is passed over
    single_by : (function : Bool) (stars : Stars) (b : BaseType) → f.ty.is_function ≡ function → f.ty.resolved.stars ≡ stars → f.ty.resolved.base ≡ b → is_unknown b ≡ false
        → (not function && has_no_target f.options f.ty.resolved) ≡ false
        → 1 ≤ (if function then pointer_extent else (if is_zero stars then base_extent p b else pointer_extent)).size
    single_by true stars b f_is s_is b_is known sizes = omega arith
    single_by false One b f_is s_is b_is known sizes = omega arith
    single_by false Two b f_is s_is b_is known sizes = omega arith
    single_by false More b f_is s_is b_is known sizes = omega arith
    single_by false Zero (base.Number s is_char) f_is s_is b_is known sizes = bytes_some s
    single_by false Zero base.Float f_is s_is b_is known sizes = omega arith
    single_by false Zero base.Double f_is s_is b_is known sizes = omega arith
    single_by false Zero (base.Structure id) f_is s_is b_is known sizes = inside id (holds id f_is b_is s_is)
    single_by false Zero base.Sizeless f_is s_is b_is known sizes = absurd (sized base.Sizeless b_is s_is refl sizes)
    single_by false Zero (base.Undefined keyword tag) f_is s_is b_is known sizes = absurd (sized (base.Undefined keyword tag) b_is s_is refl sizes)
    single_by false Zero base.Unknown f_is s_is b_is known sizes = absurd (cc)

    defined : (is_unknown f.ty.resolved.base ≡ false) × ((not f.ty.is_function && has_no_target f.options f.ty.resolved) ≡ false)
    unfolding is_undefined_type
    defined =
        let two = or_first (is_unknown f.ty.resolved.base || (not f.ty.is_function && has_no_target f.options f.ty.resolved)) (list_any names_undefined f.ty.bounds)
        (or_first _ (option_map_or names_undefined f.ty.bits false) sound.type.defined) in
        (or_first (is_unknown f.ty.resolved.base) (not f.ty.is_function && has_no_target f.options f.ty.resolved) two, or_second (is_unknown f.ty.resolved.base) (not f.ty.is_function && has_no_target f.options f.ty.resolved) two)

    single_size : 1 ≤ (single_extent p f.ty).size
    single_size =
        single_by f.ty.is_function f.ty.resolved.stars f.ty.resolved.base refl refl refl defined.0 defined.1

    no_length : has_skip f.options ≡ true → has_length f.options ≡ false
    no_length skip = ap (λ (s : Bool). has_option (codes "length") f.options && not s) skip ∙ last (has_option (codes "length") f.options)
      where
        last : (b : Bool) → (b && false) ≡ false
        last true = refl
        last false = refl

    all_by : (bounds : List Amount) → f.ty.bounds ≡ bounds → has_skip f.options ≡ true → All IsBound bounds
    all_by [] e skip = All-nil IsBound
    all_by (bound ∷ bounds) e skip = bounds_false bound bounds (has_length f.options) (no_length skip) (subst (λ (bs : List Amount). AreBounds (has_length f.options) bs) e sound.type.bounds)

    opaque_some : has_skip f.options ≡ true → 1 ≤ min (elements f.ty.bounds * (single_extent p f.ty).size) TOO_LARGE
    opaque_some skip =
        let some = times_some (elements f.ty.bounds) (single_extent p f.ty).size (elements_some f.ty.bounds (all_by f.ty.bounds refl skip)) single_size in
        omega (arith, some)

    -- a field that is no array with a length takes something
    pub field_takes : (type : Ty) → OfField draft p (constants draft) f.options f.ty type → is_tail type ≡ false → Takes (storage_of p type)
    field_takes type (walked skip w) e = walked_takes skip w e
    field_takes type (skipped_number {s = s} skip) e = size-num s
    field_takes type (skipped_bits {s = s} {n = n} skip some most) e = some
    field_takes type (opaque skip) e = size-opaque _ _ (opaque_some skip)

    -- bytes that are passed over have a size and an alignment
    pub opaque_shape : is_alignment (single_extent p f.ty).align ≡ true → has_skip f.options ≡ true → is_field_type (opaque_type p f.ty) ≡ true
    opaque_shape aligned skip =
        let size = min (elements f.ty.bounds * (single_extent p f.ty).size) TOO_LARGE in
        ap field_type_at (ty.outs-Opaque (min (elements f.ty.bounds * (single_extent p f.ty).size) TOO_LARGE) (single_extent p f.ty).align)
        ∙ and_true _ (is_alignment (single_extent p f.ty).align)
        (and_true (nat_le 1 (min (elements f.ty.bounds * (single_extent p f.ty).size) TOO_LARGE)) (nat_le (min (elements f.ty.bounds * (single_extent p f.ty).size) TOO_LARGE) TOO_LARGE)
        (le-leb 1 _ (opaque_some skip)) (le-leb _ TOO_LARGE (omega arith))) aligned

-- ---- the structures of the program

module _ (draft : Draft) (planes : List Plane) (program : Program) (is : program ≡ program_by draft planes) (laid : AreLaidOut program planes) (sound : IsSound draft)
    (none : draft_faults draft ≡ []) where
  plane_at : (place : ℕ) (ds : DraftStructure) (plane : Plane) → slice_get draft.structures place ≡ Some ds → slice_get planes place ≡ Some plane
      → IsPlaneOf ds.is_union (storages_of planes (map (field_of draft planes ds.is_union) ds.fields)) plane
  plane_at place ds plane e at =
      let made = structure_at draft planes program is place ds e in
      subst (λ (s : Structure). IsPlane planes s plane) made.2.same (laid.each place made.0 plane made.1 at)

  long : length planes ≡ length draft.structures
  long = laid.all ∙ structures_length draft planes program is

  drafted_at : (id : ℕ) (plane : Plane) → slice_get planes id ≡ Some plane → (ds : DraftStructure) × (slice_get draft.structures id ≡ Some ds)
  drafted_at id plane at = let within = slice_get_within planes id plane at in present draft.structures id (omega (arith, within, long))

  -- ---- alignments

  aligned_by : (id : ℕ) → ((ds : DraftStructure) → slice_get draft.structures id ≡ Some ds → All (λ f. (inner : ℕ) → held_type f.ty ≡ Some inner → IsTrue (is_alignment (extent_at planes inner).align)) ds.fields)
      → (o : Option Plane) → slice_get planes id ≡ o → is_alignment (extent_at planes id).align ≡ true
  aligned_by id below None at = ap (λ (o : Option Plane). is_alignment (extent_of_plane o).align) at
  aligned_by id below (Some plane) at =
      let from = drafted_at id plane at in
      let ds = from.0 in
      ap (λ (o : Option Plane). is_alignment (extent_of_plane o).align) at
      ∙ ap is_alignment (plane_at id from.0 plane from.1 at).align
      ∙ greatest_aligned planes (map (field_of draft planes from.0.is_union) from.0.fields)
      (placeable_fields draft planes from.0.is_union from.0.fields (structure_sound draft planes program is sound id from.0 from.1).fields (below from.0 from.1))

  aligned_at : (n id : ℕ) → ¬ IsNested draft.structures n id → is_alignment (extent_at planes id).align ≡ true
  aligned_at zero id deep = absurd (deep tt)
  aligned_at (suc n) id deep =
      aligned_by id (λ ds e k d within inner held. aligned_at n inner (inner_shallow draft.structures id n ds e deep k d within inner held)) (slice_get planes id) refl

  -- ---- sizes

  fines : (place : ℕ) (ds : DraftStructure) → slice_get draft.structures place ≡ Some ds → FieldsFine draft ds ds.fields
  fines place ds e = fields_fine draft ds (structure_fields draft none place ds e)

  -- the first field is no array with a length, where the structure does not end in one
  first_by : (id : ℕ) (ds : DraftStructure) (f : DraftField) (fs : List DraftField) → slice_get draft.structures id ≡ Some ds → ds.fields ≡ f ∷ fs → ¬ IsTail draft.structures id
      → IsSoundField draft ds.is_union f → FieldFine draft ds (is_empty fs) f → (union : Bool) → ds.is_union ≡ union → (b : Bool) → is_tail (field_type draft planes f) ≡ b → b ≡ false
  first_by id ds f fs e fields ending one fine union kind false is_b = refl
  first_by id ds f fs e fields ending one fine true kind true is_b = not_tail draft planes ds (is_empty fs) f one fine (inl kind) true is_b
  first_by id ds f (g ∷ fs) e fields ending one fine false kind true is_b = not_tail draft planes ds false f one fine (inr refl) true is_b
  first_by id ds f [] e fields ending one fine false kind true is_b =
      absurd (ending (struct_tail ds e kind (ap ends_in_tail fields ∙ tail_by draft planes ds.is_union f one (field_type draft planes f) (view draft planes ds.is_union f one fine.typed) (inl is_b))))

  -- what a field holds does not end in an array with a length, where its structure does not
  held_no_tail : (id : ℕ) (ds : DraftStructure) (f : DraftField) → slice_get draft.structures id ≡ Some ds → Contains ds.fields f → ¬ IsTail draft.structures id → IsSoundField draft ds.is_union f
      → (inner : ℕ) → held_type f.ty ≡ Some inner → ¬ IsTail draft.structures inner
  held_no_tail id ds f e inside ending one inner held inner_ends =
      let kept = one.type.tail inner held inner_ends in
      let named : member_structure f ≡ Some inner =
      ap (λ (b : Bool). if (b || not (is_nil f.ty.bounds)) then None else held_type f.ty) kept.2 ∙ ap (λ (b : Bool). if not b then None else held_type f.ty) kept.1 ∙ held in
      ending (union_tail ds e kept.0 (in_filtered member_structure ds.fields f inner inside named) inner_ends)

  size_by : (id : ℕ) (ds : DraftStructure) → slice_get draft.structures id ≡ Some ds → ¬ IsTail draft.structures id
      → ((f : DraftField) → Contains ds.fields f → (inner : ℕ) → held_type f.ty ≡ Some inner → ¬ IsTail draft.structures inner → 1 ≤ (extent_at planes inner).size)
      → (fs : List DraftField) → ds.fields ≡ fs → FieldsFine draft ds fs → 1 ≤ (extent_at planes id).size
  size_by id ds e ending below [] fields fine =
      let some = (structure_sound draft planes program is sound id ds e).some in let empty : length ds.fields ≡ 0 = ap (λ xs. length xs) fields in absurd (omega (arith, some, empty))
  size_by id ds e ending below (f ∷ fs) fields fine =
      let inside : Contains ds.fields f = subst (λ (xs : List DraftField). Contains xs f) (sym fields) (in_head f fs) in
      let at = place_of ds.fields f inside in
      let one = field_sound draft planes program is sound id ds at.0 f e at.1 in
      let within = slice_get_within draft.structures id ds e in
      let plane = present planes id (omega (arith, within, long)) in
      let takes = field_takes planes draft ds.is_union f one (λ inner held. below f inside inner held (held_no_tail id ds f e inside ending one inner held)) (field_type draft planes f)
      (view draft planes ds.is_union f one fine.0.typed) (first_by id ds f fs e fields ending one fine.0 ds.is_union refl (is_tail (field_type draft planes f)) refl) in
      let made = subst (λ (xs : List DraftField). IsPlaneOf ds.is_union (storages_of planes (map (field_of draft planes ds.is_union) xs)) plane.0) fields (plane_at id ds plane.0 e plane.1) in
      subst (λ (o : Option Plane). 1 ≤ (extent_of_plane o).size) (sym plane.1)
      (plane_by ds.is_union (storage_of planes (field_type draft planes f)) (storages_of planes (map (field_of draft planes ds.is_union) fs)) plane.0.fields plane.0.size made.places made.size.room.inside takes)

  size_at : (n id : ℕ) (ds : DraftStructure) → slice_get draft.structures id ≡ Some ds → ¬ IsNested draft.structures n id → ¬ IsTail draft.structures id → 1 ≤ (extent_at planes id).size
  size_at zero id ds e deep ending = absurd (deep tt)
  size_at (suc n) id ds e deep ending =
      size_by id ds e ending
      (λ f inside inner held whole.
      let at = place_of ds.fields f inside in
      let one = field_sound draft planes program is sound id ds at.0 f e at.1 in
      let next = present draft.structures inner (held_there draft f.ty inner one.type.there held) in
      size_at n inner next.0 next.1 (All-contains (λ (g : DraftField). (i : ℕ) → held_type g.ty ≡ Some i → ¬ IsNested draft.structures n i) ds.fields f (inner_shallow draft.structures id n ds e deep) inside inner held) whole)
      ds.fields refl (fines id ds e)

  not_deep : (id : ℕ) → ¬ IsNested draft.structures (suc MAX_DEPTH) id
  not_deep id nested = let deep = sound.depth (suc MAX_DEPTH) id nested in omega (arith, deep)

  opaque_aligned : (t : DeclaredType) (function : Bool) (stars : Stars) (b : BaseType)
      → is_alignment (if function then pointer_extent else (if is_zero stars then base_extent planes b else pointer_extent)).align ≡ true
  opaque_aligned t true stars b = refl
  opaque_aligned t false One b = refl
  opaque_aligned t false Two b = refl
  opaque_aligned t false More b = refl
  opaque_aligned t false Zero (base.Number s is_char) = bytes_aligned s
  opaque_aligned t false Zero base.Float = refl
  opaque_aligned t false Zero base.Double = refl
  opaque_aligned t false Zero (base.Structure id) = aligned_at (suc MAX_DEPTH) id (not_deep id)
  opaque_aligned t false Zero b = refl

  pub bytes_good : BytesGood draft planes
  bytes_good place ds k df e at skip =
      let one = field_sound draft planes program is sound place ds k df e at in
      opaque_shape planes draft ds.is_union df one
      (λ inner held.
      let next = present draft.structures inner (held_there draft df.ty inner one.type.there held) in
      size_at (suc MAX_DEPTH) inner next.0 next.1 (not_deep inner)
      (λ ending. let kept = one.type.tail inner held ending in let never : true ≡ false = sym skip ∙ kept.2 in cc))
      (opaque_aligned df.ty df.ty.is_function df.ty.resolved.stars df.ty.resolved.base) skip
