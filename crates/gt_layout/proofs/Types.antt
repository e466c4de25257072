-- What a type takes depends on the structure that it holds by value alone.
use Rattle.std.proofs.Common.{◌≡◌, ℕ, zero, suc, ◌*◌, ◌≤◌, ◌<◌, min, Bool, true, false, ◌&&◌, IsTrue, nat_le, Some, None, List, one-mul, zero-mul, mul_assoc, sym, ap, subst, ◌∙◌, refl, ◌⊎◌, inl, inr, arith}
use Rattle.std.proofs.lemmas.Bool.{cases_lt}
use Rattle.std.proofs.lemmas.Nat.{mul-le}
use Rattle.gt_types.specs.declared.limits.TheConstants.{TOO_LARGE}
use Rattle.gt_types.specs.declared.types.Width.TheVariants.{W1, W2, W4, W8}
use Rattle.gt_types.specs.declared.types.Scalar.{Scalar}
use Rattle.gt_types.specs.declared.types.Scalar.TheVariants as scalar
use Rattle.gt_types.specs.declared.types.TypeId.{TypeId}
use Rattle.gt_types.specs.declared.types.Ty.{Ty, out-Ty, roll-Ty, map-Ty}
use Rattle.gt_types.specs.declared.types.Ty.TheOpen as part
use Rattle.gt_types.specs.declared.types.Ty.TheOpen.{Ty-F}
use Rattle.gt_types.specs.declared.types.PtrKind.TheVariants as kind
use Rattle.gt_types.specs.declared.types.Ty.TheVariants as ty
use Rattle.gt_types.specs.declared.types.Ty.TheFolds.{fold-roll-Ty, fold_out-Ty, ind-Ty}
use Rattle.gt_types.specs.Shapes.{innermost, innermost_step, is_element, is_element_step, is_field_type, field_type_at, is_bound, bits_of, may_repeat, is_root_type, root_type_at}
use Rattle.gt_types.specs.Contains.{itself, held_by}
use Rattle.gt_layout.specs.declared.planes.Extent.{Extent}
use Rattle.gt_layout.specs.declared.planes.Plane.{Plane}
use Rattle.gt_layout.specs.declared.storages.Storage.TheVariants.{Bytes, Bits}
use Rattle.gt_layout.specs.Storages.{bytes_of, extent, extent_at, extent_step, extent_of, storage_of}
use Rattle.gt_layout.specs.Planes.{is_alignment, is_placeable}
use Rattle.gt_layout.proofs.Placing.{IsPossible}
use Rattle.gt_layout.proofs.Agreement.{Alike, alike_bytes}

-- a type that holds no structure takes the same whatever the planes are
pub record IsClosed (type : Ty) : Type 0 where
  pub none : held_by type ≡ None
  pub same : (p q : List Plane) → extent_of p type ≡ extent_of q type
  pub aligned : IsTrue (is_element type) → (p : List Plane) → IsTrue (is_alignment (extent_of p type).align)

-- another takes so many times what its structure takes
pub record IsMultiple (type : Ty) : Type 0 where
  pub node : TypeId
  pub some : held_by type ≡ Some node
  pub count : ℕ
  pub same : (p : List Plane) → extent_of p type ≡ extent (count * (extent_at p node.0).size) (extent_at p node.0).align

abbrev pub IsSplit : Ty → Type 0
IsSplit type = IsClosed type ⊎ IsMultiple type

bytes_aligned : (number : Scalar) → IsTrue (is_alignment (bytes_of number))
bytes_aligned scalar.Bool = refl
bytes_aligned (scalar.Int W1 signed) = refl
bytes_aligned (scalar.Int W2 signed) = refl
bytes_aligned (scalar.Int W4 signed) = refl
bytes_aligned (scalar.Int W8 signed) = refl

extent-roll : (p : List Plane) (x : Ty-F Ty) → extent_of p (roll-Ty x) ≡ extent_step p (map-Ty Ty Extent (extent_of p) x)
extent-roll p x = fold-roll-Ty Extent (extent_step p) x

held-roll : (x : Ty-F Ty) → held_by (roll-Ty x) ≡ itself (innermost_step (map-Ty Ty Ty innermost x))
held-roll x = ap itself (fold-roll-Ty Ty innermost_step x)

element-roll : (x : Ty-F Ty) → is_element (roll-Ty x) ≡ is_element_step (map-Ty Ty Bool is_element x)
element-roll x = fold-roll-Ty Bool is_element_step x

-- a layer whose extent is a constant
constant : (x : Ty-F Ty) (e : Extent) → itself (innermost_step (map-Ty Ty Ty innermost x)) ≡ None → ((p : List Plane) → extent_step p (map-Ty Ty Extent (extent_of p) x) ≡ e)
    → (IsTrue (is_element_step (map-Ty Ty Bool is_element x)) → IsTrue (is_alignment e.align)) → IsSplit (roll-Ty x)
constant x e none is aligned = inl (record {
  none = held-roll x ∙ none;
  same = λ p q. extent-roll p x ∙ is p ∙ sym (is q) ∙ sym (extent-roll q x);
  aligned = λ element p. subst (λ (n : ℕ). IsTrue (is_alignment n)) (sym (ap (λ (d : Extent). d.align) (extent-roll p x ∙ is p))) (aligned (sym (element-roll x) ∙ element));
})

-- an array takes so many times what its elements take
scaled : (count n : ℕ) (p : List Plane) (node : TypeId) (e : Extent) → e ≡ extent (count * (extent_at p node.0).size) (extent_at p node.0).align
    → extent (n * e.size) e.align ≡ extent (n * count * (extent_at p node.0).size) (extent_at p node.0).align
scaled count n p node e is =
    ap (λ (d : Extent). extent (n * d.size) d.align) is ∙ ap (λ (m : ℕ). extent m (extent_at p node.0).align) (sym (mul_assoc n count (extent_at p node.0).size))

both_left : (a b : Bool) → IsTrue (a && b) → IsTrue a
both_left true b is = refl
both_left false b is = cc

both_true : (a b : Bool) → IsTrue (a && b) → IsTrue b
both_true true b is = is
both_true false b is = cc

repeated : (n : ℕ) (elem : Ty) → IsSplit elem → IsSplit (roll-Ty (part.Arr n elem))
repeated n elem (inl closed) = inl (record {
  none = held-roll (part.Arr n elem) ∙ closed.none;
  same = λ p q. extent-roll p (part.Arr n elem) ∙ ap (λ (d : Extent). extent (n * d.size) d.align) (closed.same p q) ∙ sym (extent-roll q (part.Arr n elem));
  aligned = λ element p.
      subst (λ (m : ℕ). IsTrue (is_alignment m)) (sym (ap (λ (d : Extent). d.align) (extent-roll p (part.Arr n elem))))
      (closed.aligned (both_true (is_bound n) (is_element elem) (sym (element-roll (part.Arr n elem)) ∙ element)) p);
})
repeated n elem (inr multiple) = inr (record {
  node = multiple.node;
  some = held-roll (part.Arr n elem) ∙ multiple.some;
  count = n * multiple.count;
  same = λ p. extent-roll p (part.Arr n elem) ∙ scaled multiple.count n p multiple.node (extent_of p elem) (multiple.same p);
})

tail_extent : (type elem : Ty) → held_by type ≡ held_by elem → ((p : List Plane) → extent_of p type ≡ extent 0 (extent_of p elem).align) → is_element type ≡ false → IsSplit elem → IsSplit type
tail_extent type elem held is other (inl closed) = inl (record {
  none = held ∙ closed.none;
  same = λ p q. is p ∙ ap (λ (d : Extent). extent 0 d.align) (closed.same p q) ∙ sym (is q);
  aligned = λ element p. let never : true ≡ false = sym element ∙ other in cc;
})
tail_extent type elem held is other (inr multiple) = inr (record {
  node = multiple.node;
  some = held ∙ multiple.some;
  count = 0;
  same = λ p. is p ∙ ap (λ (d : Extent). extent 0 d.align) (multiple.same p) ∙ ap (λ (m : ℕ). extent m (extent_at p multiple.node.0).align) (sym (zero-mul (extent_at p multiple.node.0).size));
})

split_layer : (y : Ty-F ((t : Ty) × IsSplit t)) → IsSplit (roll-Ty (map-Ty ((t : Ty) × IsSplit t) Ty (λ e. e.0) y))
split_layer (part.Num number) = constant (part.Num number) (extent (bytes_of number) (bytes_of number)) refl (λ p. refl) (λ element. bytes_aligned number)
split_layer (part.Bits unit count) = constant (part.Bits unit count) (extent (bytes_of unit) (bytes_of unit)) refl (λ p. refl) (λ element. bytes_aligned unit)
split_layer (part.Opaque size align) = constant (part.Opaque size align) (extent size align) refl (λ p. refl) (λ element. cc)
split_layer (part.Str count) = constant (part.Str count) (extent 8 8) refl (λ p. refl) (λ element. refl)
split_layer (part.Ptr target kind reorder) = constant (part.Ptr target kind reorder) (extent 8 8) refl (λ p. refl) (λ element. refl)
split_layer (part.Node node desc) = inr (record {
  node = node;
  some = held-roll (part.Node node desc);
  count = 1;
  same = λ p. extent-roll p (part.Node node desc) ∙ ap (λ (m : ℕ). extent m (extent_at p node.0).align) (sym (one-mul (extent_at p node.0).size));
})
split_layer (part.Arr n elem) = repeated n elem.0 elem.1
split_layer (part.Tail count elem) =
    tail_extent (roll-Ty (part.Tail count elem.0)) elem.0 (held-roll (part.Tail count elem.0)) (λ p. extent-roll p (part.Tail count elem.0)) (element-roll (part.Tail count elem.0)) elem.1

-- each type is one or the other
pub split : (type : Ty) → IsSplit type
split = ind-Ty IsSplit (λ x y is. subst (λ (z : Ty-F Ty). IsSplit (roll-Ty z)) is (split_layer y))

-- ---- what a field takes

same_by : (p q : List Plane) (type : Ty) → IsSplit type → ((node : TypeId) → held_by type ≡ Some node → extent_at p node.0 ≡ extent_at q node.0) → extent_of p type ≡ extent_of q type
same_by p q type (inl closed) same = closed.same p q
same_by p q type (inr multiple) same =
    multiple.same p ∙ ap (λ (d : Extent). extent (multiple.count * d.size) d.align) (same multiple.node multiple.some) ∙ sym (multiple.same q)

-- planes that agree on the structure which a type holds give it the same
pub same_storage : (p q : List Plane) (type : Ty) → ((node : TypeId) → held_by type ≡ Some node → extent_at p node.0 ≡ extent_at q node.0) → storage_of p type ≡ storage_of q type
same_storage p q (ty.Bits unit count) same = refl
same_storage p q type same = ap (λ (d : Extent). Bytes d) (same_by p q type (split type) same)

-- two extents are the same, or both too large
abbrev pub AreClose : Extent → Extent → Type 0
AreClose e d = (e.align ≡ d.align) × (min e.size TOO_LARGE ≡ min d.size TOO_LARGE)

times_close : (n a b : ℕ) → min a TOO_LARGE ≡ min b TOO_LARGE → (a < TOO_LARGE) ⊎ (TOO_LARGE ≤ a) → min (n * a) TOO_LARGE ≡ min (n * b) TOO_LARGE
times_close n a b close (inl small) = let same : a ≡ b = omega arith in ap (λ (m : ℕ). min (n * m) TOO_LARGE) same
times_close zero a b close (inr large) = ap (λ (m : ℕ). min m TOO_LARGE) (zero-mul a ∙ sym (zero-mul b))
times_close (suc n) a b close (inr large) = omega (arith, large, mul-le 1 a (suc n) a (omega arith) (omega arith), mul-le 1 b (suc n) b (omega arith) (omega arith))

close_by : (p q : List Plane) (type : Ty) → IsSplit type → ((node : TypeId) → held_by type ≡ Some node → AreClose (extent_at p node.0) (extent_at q node.0)) → AreClose (extent_of p type) (extent_of q type)
close_by p q type (inl closed) close = (ap (λ (d : Extent). d.align) (closed.same p q), ap (λ (d : Extent). min d.size TOO_LARGE) (closed.same p q))
close_by p q type (inr multiple) close =
    let at = close multiple.node multiple.some in (
      ap (λ (d : Extent). d.align) (multiple.same p) ∙ at.0 ∙ sym (ap (λ (d : Extent). d.align) (multiple.same q)),
      ap (λ (d : Extent). min d.size TOO_LARGE) (multiple.same p) ∙ times_close multiple.count _ _ at.1 (cases_lt _ TOO_LARGE) ∙ sym (ap (λ (d : Extent). min d.size TOO_LARGE) (multiple.same q)),
    )

pub close_extents : (p q : List Plane) (type : Ty) → ((node : TypeId) → held_by type ≡ Some node → AreClose (extent_at p node.0) (extent_at q node.0)) → AreClose (extent_of p type) (extent_of q type)
close_extents p q type close = close_by p q type (split type) close

-- where what is held of a structure is close to its plane, fields of it take alike
pub alike_storages : (p q : List Plane) (type : Ty) → ((node : TypeId) → held_by type ≡ Some node → AreClose (extent_at p node.0) (extent_at q node.0)) → Alike (storage_of p type) (storage_of q type)
alike_storages p q (ty.Bits unit count) close = inl refl
alike_storages p q type close = let both = close_extents p q type close in alike_bytes (extent_of p type) (extent_of q type) both.0 both.1

-- ---- alignments

-- A has each alignment of numbers: what a type has, where the structure that it holds has it
aligned_by : (A : ℕ → Type 0) → ((n : ℕ) → IsTrue (is_alignment n) → A n) → (p : List Plane) (type : Ty) → IsSplit type → IsTrue (is_element type)
    → ((node : TypeId) → held_by type ≡ Some node → A (extent_at p node.0).align) → A (extent_of p type).align
aligned_by A good p type (inl closed) element aligned = good (extent_of p type).align (closed.aligned element p)
aligned_by A good p type (inr multiple) element aligned = subst A (sym (ap (λ (d : Extent). d.align) (multiple.same p))) (aligned multiple.node multiple.some)

opaque_aligned : (size align : ℕ) → IsTrue (field_type_at (part.Opaque size align)) → IsTrue (is_alignment align)
opaque_aligned size align shape = grind arith

may_element : (elem : Ty) → IsTrue (may_repeat elem) → IsTrue (is_element elem)
may_element elem may = both_left (is_element elem) _ may

aligned_layer : (A : ℕ → Type 0) → ((n : ℕ) → IsTrue (is_alignment n) → A n) → (p : List Plane) (x : Ty-F Ty) → IsTrue (field_type_at x)
    → ((node : TypeId) → itself (innermost_step (map-Ty Ty Ty innermost x)) ≡ Some node → A (extent_at p node.0).align) → A (extent_step p (map-Ty Ty Extent (extent_of p) x)).align
aligned_layer A good p (part.Num number) shape aligned = good (bytes_of number) (bytes_aligned number)
aligned_layer A good p (part.Bits unit count) shape aligned = good (bytes_of unit) (bytes_aligned unit)
aligned_layer A good p (part.Opaque size align) shape aligned = good align (opaque_aligned size align shape)
aligned_layer A good p (part.Str count) shape aligned = good 8 refl
aligned_layer A good p (part.Ptr target kind reorder) shape aligned = good 8 refl
aligned_layer A good p (part.Node node desc) shape aligned = aligned node refl
aligned_layer A good p (part.Arr n elem) shape aligned = aligned_by A good p elem (split elem) (may_element elem (both_true (is_bound n) (may_repeat elem) shape)) aligned
aligned_layer A good p (part.Tail count elem) shape aligned = aligned_by A good p elem (split elem) (may_element elem shape) aligned

-- a field whose structure has an alignment has one
aligned_field : (A : ℕ → Type 0) → ((n : ℕ) → IsTrue (is_alignment n) → A n) → (p : List Plane) (type : Ty) → IsTrue (is_field_type type)
    → ((node : TypeId) → held_by type ≡ Some node → A (extent_at p node.0).align) → A (extent_of p type).align
aligned_field A good p type shape aligned =
    subst (λ (d : Extent). A d.align) (sym (fold_out-Ty Extent (extent_step p) type))
    (aligned_layer A good p (out-Ty type) shape (λ node held. aligned node (ap itself (fold_out-Ty Ty innermost_step type) ∙ held)))

bits_placeable : (unit : Scalar) (count : ℕ) → IsTrue (nat_le 1 count && nat_le count (bits_of unit)) → IsTrue (is_placeable (Bits (bytes_of unit) count))
bits_placeable scalar.Bool count shape = grind arith
bits_placeable (scalar.Int W1 signed) count shape = shape
bits_placeable (scalar.Int W2 signed) count shape = shape
bits_placeable (scalar.Int W4 signed) count shape = shape
bits_placeable (scalar.Int W8 signed) count shape = shape

bits_shape : (unit : Scalar) (count : ℕ) → IsTrue (is_field_type (ty.Bits unit count)) → IsTrue (nat_le 1 count && nat_le count (bits_of unit))
unfolding out-Ty denote.Hole.Carrier.out
bits_shape unit count shape = shape

pub placeable_field : (p : List Plane) (type : Ty) → IsTrue (is_field_type type) → ((node : TypeId) → held_by type ≡ Some node → IsTrue (is_alignment (extent_at p node.0).align)) → IsTrue (is_placeable (storage_of p type))
placeable_field p (ty.Bits unit count) shape aligned = bits_placeable unit count (bits_shape unit count shape)
placeable_field p type shape aligned = aligned_field (λ n. IsTrue (is_alignment n)) (λ n is. is) p type shape aligned

bits_possible : (unit : Scalar) (count : ℕ) → IsTrue (nat_le 1 count && nat_le count (bits_of unit)) → (1 ≤ count) × (count ≤ 8 * bytes_of unit)
bits_possible scalar.Bool count shape = (grind arith, grind arith)
bits_possible (scalar.Int W1 signed) count shape = (grind arith, grind arith)
bits_possible (scalar.Int W2 signed) count shape = (grind arith, grind arith)
bits_possible (scalar.Int W4 signed) count shape = (grind arith, grind arith)
bits_possible (scalar.Int W8 signed) count shape = (grind arith, grind arith)

some_alignment : (n : ℕ) → IsTrue (is_alignment n) → 1 ≤ n
some_alignment n is = grind arith

-- a field can be placed where its structure has an alignment at all
pub possible_field : (p : List Plane) (type : Ty) → IsTrue (is_field_type type) → ((node : TypeId) → held_by type ≡ Some node → 1 ≤ (extent_at p node.0).align) → IsPossible (storage_of p type)
possible_field p (ty.Bits unit count) shape aligned = bits_possible unit count (bits_shape unit count shape)
possible_field p type shape aligned = aligned_field (λ n. 1 ≤ n) some_alignment p type shape aligned

root_layer : (x : Ty-F Ty) → IsTrue (root_type_at x) → IsTrue (field_type_at x)
root_layer (part.Num number) shape = refl
root_layer (part.Bits unit count) shape = cc
root_layer (part.Opaque size align) shape = cc
root_layer (part.Str count) shape = refl
root_layer (part.Ptr target kind.Undef reorder) shape = cc
root_layer (part.Ptr target kind reorder) shape = shape
root_layer (part.Node node desc) shape = refl
root_layer (part.Arr n elem) shape = shape
root_layer (part.Tail count elem) shape = cc

-- the type of a root could be that of a field
pub root_field : (type : Ty) → IsTrue (is_root_type type) → IsTrue (is_field_type type)
root_field type shape = root_layer (out-Ty type) shape
